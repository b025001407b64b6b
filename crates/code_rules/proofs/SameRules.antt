-- The first rule that is not kept, by tests that are equal.
use Rattle.std.proofs.Common.{◌≡◌, Bool, refl, slice_get}
use Rattle.register_code.specs.Rules.{broken_rules}

pub same_rules : {a b c d e f g h k l m n o p q r : Bool} → a ≡ k → b ≡ l → c ≡ m → d ≡ n → e ≡ o → f ≡ p → g ≡ q → h ≡ r
    → slice_get (broken_rules a b c d e f g h) 0 ≡ slice_get (broken_rules k l m n o p q r) 0
same_rules {a} {b} {c} {d} {e} {f} {g} {h} {k} {l} {m} {n} {o} {p} {q} {r} s t u v w x y z = rw (s, t, u, v, w, x, y, z) refl
