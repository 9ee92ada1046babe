-- The front of what a reader gives. Assumes nothing.
use Rattle.std.proofs.Common.{◌≡◌, ℕ, ◌+◌, ◌≤◌, List, ◌++◌, length, take, Option, None, Some, IfSome, refl, sym, arith, drop_at, take-add, take_at, take_all, length-take, length-take-le}
use Rattle.std.specs.Io.KnownBytes.{Consumes, IsAtEnd}
use Rattle.std.proofs.KnownBytes.{Consumes-trans, Consumes-whole}
use borrow.Rule.Slice.PartMut.{put_mid, post_of, take_put}
use lib.Seq.{take-append-le}

-- a read put n bytes after the first f
read_after : (f k n : ℕ) (room part : List ℕ) → f ≤ length room → n ≤ length part → take (f + n) (put_mid f k room part) ≡ take f room ++ take n part
read_after f k n room part within fits =
    let rest = post_of f k room in
    rw (take-add f n (put_mid f k room part), take_put f k room part within, drop_at (take f room) (part ++ rest) f (length-take-le f room within), take-append-le n part rest fits) refl

-- so the first m bytes are what the reader gave, by this read and those before it
pub read_more : (a b c : Option (List ℕ)) (f k n m : ℕ) (room part : List ℕ) → f ≤ length room → n ≤ length part → m ≡ f + n
    → Consumes a b (take f room) → Consumes b c (take n part) → Consumes a c (take m (put_mid f k room part))
read_more a b c f k n m room part within fits e before read =
    rw (e, read_after f k n room part within fits) (Consumes-trans a b c _ _ before read)

-- m bytes that a reader gave are the first m that it had
pub front_full : (a b : Option (List ℕ)) (f m : ℕ) (room : List ℕ) → Consumes a b (take f room) → f ≡ m → m ≤ length room → IfSome a (λ all. take f room ≡ take m all)
front_full None b f m room read e within = tt
front_full (Some x) None f m room read e within = absurd read
front_full (Some x) (Some y) f m room read e within = rw read (sym (take_at (take f room) y m (omega (arith, length-take f room))))

-- and so are fewer, where the reader has no more
pub front_ended : (a b : Option (List ℕ)) (f m : ℕ) (room : List ℕ) → Consumes a b (take f room) → IsAtEnd b → f ≤ m → IfSome a (λ all. take f room ≡ take m all)
front_ended a b f m room read end fewer =
    Consumes-whole a b (take f room) (λ all. take f room ≡ take m all) read end (sym (take_all m (take f room) (omega (arith, length-take f room))))
