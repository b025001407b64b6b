use Rattle.std.proofs.Common.{◌≡◌, ◌≤◌, ℕ, ℤ, List, [], ◌∷◌, length, drop, refl, ap, sym, ◌∙◌, arith}
use Rattle.std.proofs.lemmas.List.{drop_all}
use Rattle.std.proofs.lemmas.Bool.Decides.{nat_tests}
use Rattle.tap_exec.specs.Sourced.{writes}
use Rattle.tap_exec.proofs.assign.write_all.Goals as goal

writes_nothing : (ks : List ℕ) (cells : List ℤ) → writes ks [] cells ≡ cells
writes_nothing [] cells = refl
writes_nothing (k ∷ ks) cells = refl

pub returns-in_default : goal.returns-in_default
returns-in_default c =
    let past : length c.args.values.now ≤ c.loop-at.at = let l = c.in_default.ensures.lookup.0 in grind (arith, nat_tests) in
    sym (writes_nothing (drop c.loop-at.at c.args.places.now) c.loop-at.cells)
    ∙ ap (λ xs. writes (drop c.loop-at.at c.args.places.now) xs c.loop-at.cells) (sym (drop_all c.loop-at.at c.args.values.now past))
    ∙ c.loop-at.invariant
