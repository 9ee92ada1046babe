-- When decisions are the same, and their bytes. Assumes nothing.
use Rattle.std.specs.Prelude.{◌≡◌, ℕ, ◌+◌, ◌*◌, ◌/◌, ◌%◌, Bool, true, ◌&&◌, List, [], ◌∷◌, ◌==◌, slice_index}
use Rattle.decision.specs.declared.queue.Queue.{Queue}
use Rattle.decision.specs.declared.handling.Handling.{Handling}

-- alike sorts the decisions into classes
pub record Equivalence {D : Type 0} (alike : D → D → Bool) : Type 0 where
  pub reflexive : (x : D) → alike x x ≡ true
  pub symmetric : (x y : D) → alike x y ≡ true → alike y x ≡ true
  pub transitive : (x y z : D) → alike x y ≡ true → alike y z ≡ true → alike x z ≡ true

-- equal queues are the same
abbrev pub same_queue : Queue → Queue → Bool
same_queue x y = x.queue == y.queue

abbrev pub queue_bytes : Queue → List ℕ
queue_bytes q = q.queue ∷ []

abbrev pub queue_of : List ℕ → Queue
queue_of bs = record { queue = slice_index bs 0 }

-- handlings of one queue and one class are the same; keep time and note do not count
abbrev pub same_handling : Handling → Handling → Bool
same_handling x y = x.queue == y.queue && x.class == y.class

-- queue, class, keep time and note, the last two high byte first
abbrev pub handling_bytes : Handling → List ℕ
handling_bytes h = h.queue ∷ h.class ∷ (h.keep / 256) ∷ (h.keep % 256) ∷ (h.note / 256) ∷ (h.note % 256) ∷ []

abbrev pub handling_of : List ℕ → Handling
handling_of bs =
    record {
      queue = slice_index bs 0;
      class = slice_index bs 1;
      keep = slice_index bs 2 * 256 + slice_index bs 3;
      note = slice_index bs 4 * 256 + slice_index bs 5;
    }
