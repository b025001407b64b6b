use Rattle.std.proofs.Common.{◌≡◌, ◌++◌, ◌∷◌, [], List, ℕ, inl, inr, refl, subst, rules}
use Rattle.replay.specs.inner.Judging.{said_by}
use Rattle.replay.specs.inner.Progress.{Progress}
use Rattle.replay.proofs.Fronts.{none_there}
use Rattle.replay.proofs.Progressed.{unended}
use Rattle.replay.proofs.reader.Reader.finish.Goals as goal

pub returns-then-is_empty-clause-judges : goal.returns-then-is_empty-clause-judges
returns-then-is_empty-clause-judges c = λ start taken p.
    let none : c.args.self.now.line.items ≡ [] = none_there c.is_empty.result c.as_slice.result.now c.args.self.now.line.items c.if-is_empty.true c.is_empty.ensures c.as_slice.ensures.value in
    c.close.ensures.judges start taken taken (subst (λ (f : List ℕ). Progress (said_by c.args.given.now) start taken f c.args.self.now.number c.args.self.now.judge) none p) (inl refl)

pub returns-in-Ok-clause-judges : goal.returns-in-Ok-clause-judges
returns-in-Ok-clause-judges c = λ start taken p.
    let some : c.args.self.now.line.items ≡ [] → ⊥ = search rules in
    let rest = unended (said_by c.args.given.now) start taken c.args.self.now.line.items c.args.self.now.number c.args.self.now.judge some p in
    c.close-in-Ok.ensures.judges start taken (taken ++ 10 ∷ []) (c.in-Ok.ensures.goes_on start taken p) (inr (rest, refl))

pub returns-in-Err-clause-judges : goal.returns-in-Err-clause-judges
returns-in-Err-clause-judges c = λ start taken p.
    let some : c.args.self.now.line.items ≡ [] → ⊥ = search rules in
    c.in-Err.ensures.fault start taken taken p (inr (refl, some))
