-- What is known of tested widths. Assumes nothing.
use Rattle.std.proofs.Common.{◌≡◌, ℕ, suc, ◌<◌, ◌≤◌, true, false, List, length, get_or, None, ⊎_elim, arith}
use Rattle.std.proofs.lemmas.List.{get_or_past}
use Rattle.std.proofs.lemmas.Bool.{cases_lt, cases_Bool, or_parts, ltb-false}
use Rattle.routing.specs.Packing.{packed, unpacked}
use Rattle.routing.specs.Lawful.{Tested, outside, width_bad, width_refusal, widths_refusal}
use Rattle.routing.proofs.First.{mapped_none, none_below}
use Rattle.routing.proofs.Packs.{bytes_again}

-- widths that pass each test
pub tested : (ws : List ℕ) → 1 ≤ length ws → length ws ≤ 8 → width_refusal ws ≡ None → Tested ws
tested ws h l e =
    (h, l, λ k i. let f = or_parts _ _ (none_below (width_bad ws) suc (length ws) k i e) in (ltb-false _ _ f.0, ltb-false _ _ f.1))

-- each width is a byte, and those past the last field are 0
pub tested_byte : (ws : List ℕ) → Tested ws → (k : ℕ) → get_or ws k 0 < 256
tested_byte ws t k =
    ⊎_elim (λ (h : k < length ws). omega (arith, t.2 k h))
    (λ (h : length ws ≤ k). omega (arith, get_or_past ws k 0 h))
    (cases_lt k (length ws))

-- packed, they are read back
pub unpacked_again : (ws : List ℕ) → Tested ws → unpacked (packed ws) ≡ ws
unfolding unpacked
unpacked_again ws t = bytes_again 8 ws t.1 (λ k h. let f = t.2 k h in (f.0, omega (arith, f.1)))

-- widths that no reason speaks against
pub widths_settled : (ws : List ℕ) → widths_refusal ws ≡ None → (1 ≤ length ws) × (length ws ≤ 8) × (width_refusal ws ≡ None)
widths_settled ws e =
    ⊎_elim
    (λ (b : outside 1 8 (length ws) ≡ true). let z : ◌≡◌ {A = ℕ} 0 1 = let h = rw b at e in cc in absurd (omega arith))
    (λ (b : outside 1 8 (length ws) ≡ false).
    let f = or_parts _ _ b in
    (ltb-false _ _ f.0, ltb-false _ _ f.1, mapped_none _ (width_refusal ws) (rw b at e)))
    (cases_Bool (outside 1 8 (length ws)))
