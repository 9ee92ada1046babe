use Rattle.std.proofs.Common.{◌≡◌, ◌≤◌, refl, ap, arith}
use native.Mathlib.Bridge.{le_prop}
use mathlib.Core.HLevel.{is_prop→PathP}
use Rattle.decision.specs.declared.class.Class.{Class}
use Rattle.decision.specs.declared.class.Class.TheVariants.{Ordinary, Express, Chilled, Unnamed}
use Rattle.decision.specs.declared.class.UnnamedClass.{UnnamedClass}
use Rattle.decision.specs.Classes.{class_code}
use Rattle.decision.proofs.class.codes.ClassFromU8.from.Goals as goal

-- classes with no name are the same where their codes are
same_unnamed : (u v : UnnamedClass) → u.code ≡ v.code → u ≡ v
same_unnamed u v e =
    λ i. record { code = e i; unnamed = is_prop→PathP (λ j. 3 ≤ e j) (λ j. le_prop) u.unnamed v.unnamed i }

only_unnamed : (u : UnnamedClass) (c : Class) → class_code c ≡ u.code → c ≡ Unnamed u
only_unnamed u Ordinary e = absurd (omega (arith, u.unnamed))
only_unnamed u Express e = absurd (omega (arith, u.unnamed))
only_unnamed u Chilled e = absurd (omega (arith, u.unnamed))
only_unnamed u (Unnamed v) e = ap Unnamed (same_unnamed v u e)

pub returns-in_default : goal.returns-in_default
returns-in_default c = record { value = refl; only = λ k e. only_unnamed _ k e }
