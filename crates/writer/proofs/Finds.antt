-- What `find_map` over a range from 0 finds. Assumes nothing.
use Rattle.std.proofs.Common.{◌≡◌, ℕ, ◌+◌, ◌-◌, ◌<◌, ◌≤◌, Some, None, Option, sym, ap, ◌∙◌, zero-add, arith}
use Rattle.std.specs.Option.{MatchOption, option_map}
use denote.Param.Members.{Mut, Called}
use Rattle.std.specs.Iterator.Runs.{Run, SomeRun, ItemsCountUp, CallKeepsClosure, AllItemsGive, IsFirstToGive}
use Rattle.std.specs.Bool.{IsTrue}
use Rattle.std.proofs.iter.Yields.{nat_range_steps}
use Rattle.std.proofs.iter.runs.Sources.{range_runs}
use Rattle.routing.specs.Firsts.{first_some}
use Rattle.routing.proofs.First.{none_all, some_hit}

same : (o : Option ℕ) (k : ℕ) → option_map (λ y. y) o ≡ Some k → o ≡ Some k
same None k e = e
same (Some x) k e = e

module _ {F : Type 0} (g : Mut F (ℕ × Unit {0}) (Option ℕ)) (f : F) (q : ℕ → Option ℕ) (n : ℕ)
    (gives : (x : ℕ) (r : Option ℕ) (f' : F) → Called g f (x, tt) r f' → (f' ≡ f) × (r ≡ q x)) where
  found : (r : Option ℕ) (p : Run nat_range_steps) → p.from ≡ record { start = 0; end = n }
      → MatchOption r (IsTrue p.whole × AllItemsGive p g f None) (λ y. (i : ℕ) × (i < p.len) × (p.len ≡ i + 1) × IsFirstToGive p g f (Some y) None i)
      → r ≡ first_some q n
  found r p e h = by_answer r h
    where
      up : ItemsCountUp p 0 n
      up = let u : ItemsCountUp p p.from.start p.from.end = range_runs p p.seen in rw e at u

      keeps : CallKeepsClosure g f
      keeps a s f' k = (gives a.0 s f' k).0

      here : (k : ℕ) → k < p.len → p.at k ≡ Some k
      here k l = same (p.at k) k (up.3 k l ∙ ap Some (zero-add k))

      told : (k : ℕ) (s : Option ℕ) → Called g f (k, tt) s f → q k ≡ s
      told k s c = sym (gives k s f c).1

      by_answer : (s : Option ℕ)
          → MatchOption s (IsTrue p.whole × AllItemsGive p g f None) (λ y. (i : ℕ) × (i < p.len) × (p.len ≡ i + 1) × IsFirstToGive p g f (Some y) None i)
          → s ≡ first_some q n
      by_answer None h =
          let all : p.len ≡ n - 0 = up.1 h.0 in
          sym (none_all q n (λ k l. let e = here k (omega arith) in let c = h.1 keeps k in told k None (rw e at c)))
      by_answer (Some y) h =
          let i = h.0 in
          let e = here i h.1 in
          let first = h.3 keeps in
          let c = first.0 in
          let some : p.len ≤ n - 0 = up.0 in
          sym (some_hit q n i y (omega arith) (none_all q i (λ k l. let e = here k (omega arith) in let d = first.1 k l in told k None (rw e at d))) (told i (Some y) (rw e at c)))

  pub find_map_first : (r : Option ℕ)
      → SomeRun nat_range_steps (record { start = 0; end = n }) (λ p. MatchOption r (IsTrue p.whole × AllItemsGive p g f None) (λ y. (i : ℕ) × (i < p.len) × (p.len ≡ i + 1) × IsFirstToGive p g f (Some y) None i))
      → r ≡ first_some q n
  find_map_first r h = found r h.0 h.1 h.2
