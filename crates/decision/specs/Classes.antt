-- The codes of the classes. Assumes nothing.
use Rattle.std.specs.Prelude.{◌≡◌, ℕ}
use Rattle.decision.specs.declared.class.Class.{Class}
use Rattle.decision.specs.declared.class.Class.TheVariants.{Ordinary, Express, Chilled, Unnamed}

abbrev pub class_code : Class → ℕ
class_code Ordinary = 0
class_code Express = 1
class_code Chilled = 2
class_code (Unnamed u) = u.code

-- the class that has a code, and no other has it
pub record IsOnlyClass (code : ℕ) (class : Class) : Type 0 where
  pub value : class_code class ≡ code
  pub only : (c : Class) → class_code c ≡ code → c ≡ class
