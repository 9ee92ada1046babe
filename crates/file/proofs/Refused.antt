-- The first rule that a file breaks. Assumes nothing.
use Rattle.std.proofs.Common.{◌≡◌, ℕ, ◌+◌, ◌-◌, ◌*◌, ◌≤◌, Bool, true, false, cond, List, length, Some, None, Option, refl, arith}
use Rattle.std.proofs.lemmas.Bool.{or_parts, ltb-false, eqb-true, not-false}
use Rattle.std.proofs.lemmas.Bool.Decides.{nat_tests}
use Rattle.file.specs.Layout.{file_refusal, body_refusal, header_refusal, counts_refusal, row_place, row_of, low_at, byte, four, fields, rules, rows_at, decisions_at, file_length, width_bytes, first_of}
use Rattle.std.specs.Option.{option_map}
use Rattle.routing.specs.declared.ends.Ends.{Ends}
use Rattle.routing.specs.Firsts.{first_some}
use Rattle.routing.proofs.First.{mapped_none}
use Rattle.routing.specs.Lawful.{widths_refusal, ends_refusal}

-- with a header that nothing speaks against, the body settles it
pub by_body : (bs : List ℕ) (code size : ℕ) (o : Option (ℕ × ℕ)) → None ≡ header_refusal bs code → o ≡ body_refusal bs size
    → file_refusal bs code size ≡ o
unfolding file_refusal
by_body bs code size o e f = rw (← e, ← f)

-- a row's fault by its byte, from the widths and the pairs as they were read
pub row_placed : (bs : List ℕ) (d r : ℕ) (ws : List ℕ) (es : List Ends) (o : Option ℕ) → d ≡ fields bs → ws ≡ width_bytes bs
    → es ≡ row_of bs r → o ≡ ends_refusal ws es → row_place bs r ≡ option_map (λ field. low_at d (r * d + field) - 8) o
row_placed bs d r ws es o p q s e = rw (p, ← q, ← s, ← e)

-- a test that came out well, and what is left to test
pub settled : (b : Bool) (r : ℕ × ℕ) (o : Option (ℕ × ℕ)) → cond b (Some r) o ≡ None → (b ≡ false) × (o ≡ None)
settled false r o e = (refl, e)
settled true r o e = let z : ◌≡◌ {A = ℕ} 0 1 = cc in absurd (omega arith)

pub first_none : (p q : Option (ℕ × ℕ)) → first_of p q ≡ None → (p ≡ None) × (q ≡ None)
first_none None q e = (refl, e)
first_none (Some r) q e = let z : ◌≡◌ {A = ℕ} 0 1 = cc in absurd (omega arith)

-- What a lawful header says, in plain numbers.
pub record Header (bs : List ℕ) (code : ℕ) : Type 0 where
  pub long : 16 ≤ length bs
  pub edition : byte bs 0 ≡ 1
  pub zero_3 : byte bs 3 ≡ 0
  pub zero_6 : byte bs 6 ≡ 0
  pub zero_7 : byte bs 7 ≡ 0
  pub some_fields : 1 ≤ fields bs
  pub few_fields : fields bs ≤ 8
  pub kind : byte bs 2 ≡ code
  pub few_rules : rules bs ≤ 512

pub header_lawful : (bs : List ℕ) (code : ℕ) → Header bs code → header_refusal bs code ≡ None
header_lawful bs code h = grind (arith, nat_tests)

pub header_says : (bs : List ℕ) (code : ℕ) → header_refusal bs code ≡ None → Header bs code
header_says bs code e =
    let s = settled _ _ _ e in
    let s₀ = settled _ _ _ s.1 in
    let s₃ = settled _ _ _ s₀.1 in
    let s₆ = settled _ _ _ s₃.1 in
    let s₇ = settled _ _ _ s₆.1 in
    let f = settled _ _ _ s₇.1 in
    let k = settled _ _ _ f.1 in
    let r = settled _ _ _ k.1 in
    let o = or_parts _ _ f.0 in
    record {
      long = ltb-false _ _ s.0;
      edition = eqb-true _ _ (not-false _ s₀.0);
      zero_3 = eqb-true _ _ (not-false _ s₃.0);
      zero_6 = eqb-true _ _ (not-false _ s₆.0);
      zero_7 = eqb-true _ _ (not-false _ s₇.0);
      some_fields = ltb-false _ _ o.0;
      few_fields = ltb-false _ _ o.1;
      kind = eqb-true _ _ (not-false _ k.0);
      few_rules = ltb-false _ _ r.0;
    }

-- What the counts give.
pub record Counts (bs : List ℕ) (size : ℕ) : Type 0 where
  pub rows : four bs 8 ≡ rows_at (fields bs)
  pub decisions : four bs 12 ≡ decisions_at (fields bs) (rules bs)
  pub long : length bs ≡ file_length (fields bs) (rules bs) size

pub counts_lawful : (bs : List ℕ) (size : ℕ) → Counts bs size → counts_refusal bs size ≡ None
counts_lawful bs size h = grind (arith, nat_tests)

pub counts_say : (bs : List ℕ) (size : ℕ) → counts_refusal bs size ≡ None → Counts bs size
counts_say bs size e =
    let r = settled _ _ _ e in
    let d = settled _ _ _ r.1 in
    let l = settled _ _ _ d.1 in
    record {
      rows = eqb-true _ _ (not-false _ r.0);
      decisions = eqb-true _ _ (not-false _ d.0);
      long = eqb-true _ _ (not-false _ l.0);
    }

-- What a lawful file says.
pub file_says : (bs : List ℕ) (code size : ℕ) → file_refusal bs code size ≡ None
    → Header bs code × Counts bs size × (widths_refusal (width_bytes bs) ≡ None) × (first_some (row_place bs) (rules bs) ≡ None)
unfolding file_refusal
file_says bs code size e =
    let f = first_none _ _ e in
    let b = first_none _ _ f.1 in
    let w = first_none _ _ b.1 in
    (header_says bs code f.0, counts_say bs size b.0, mapped_none _ _ w.0, mapped_none _ _ w.1)
