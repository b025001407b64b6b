use Rattle.std.proofs.Common.{◌++◌, ◌∷◌, [], List, ℕ, inl, sym, subst, append_assoc}
use Rattle.replay.specs.inner.Judging.{said_by}
use Rattle.replay.specs.inner.Progress.{Progress}
use Rattle.replay.proofs.Progressed.{more_of_line}
use Rattle.replay.proofs.reader.Reader.end_line.Goals as goal

pub returns-in-Ok-clause-goes_on : goal.returns-in-Ok-clause-goes_on
returns-in-Ok-clause-goes_on c = λ start taken p.
    let m = said_by c.args.given.now in
    let old = c.args.self.now in
    let longer = more_of_line m start taken old.line.items c.args.end.now old.number old.judge c.requires.whole p in
    let there = subst (λ (f : List ℕ). Progress m start (taken ++ c.args.end.now) f old.number old.judge) (sym c.in_ok-extend_from_slice.ensures.items) longer in
    let next = c.in-Ok.ensures.goes_on start (taken ++ c.args.end.now) there in
    subst (λ (f : List ℕ). Progress m start (taken ++ (c.args.end.now ++ 10 ∷ [])) f c.judge_line.new.self.number c.judge_line.new.self.judge) (sym c.clear.ensures.items)
    (subst (λ (t : List ℕ). Progress m start t [] c.judge_line.new.self.number c.judge_line.new.self.judge) (append_assoc taken c.args.end.now (10 ∷ [])) next)

pub returns-in-Err-clause-fault : goal.returns-in-Err-clause-fault
returns-in-Err-clause-fault c = λ start taken behind p.
    let m = said_by c.args.given.now in
    let old = c.args.self.now in
    let longer = more_of_line m start taken old.line.items c.args.end.now old.number old.judge c.requires.whole p in
    let there = subst (λ (f : List ℕ). Progress m start (taken ++ c.args.end.now) f old.number old.judge) (sym c.in_ok-extend_from_slice.ensures.items) longer in
    c.in-Err.ensures.fault start (taken ++ c.args.end.now) (taken ++ (c.args.end.now ++ 10 ∷ behind)) there (inl (behind, sym (append_assoc taken c.args.end.now (10 ∷ behind))))
