use Rattle.std.proofs.Common.{◌≡◌, ◌∙◌, ◌++◌, List, OnOk, ap, sym, subst, rules}
use Rattle.std.proofs.lemmas.Iterator.Adapters.{YieldsList-from_vec, fact_from_extend}
use Rattle.std.proofs.lemmas.List.{map-id}
use Rattle.tap_exec.specs.declared.running.Outgoing.{Outgoing}
use Rattle.world_run.proofs.deeds.append.Goals as goal

pub returns : goal.returns
returns c =
    let more = c.args.more.items in
    let stood : c.list.inside.items.items ≡ c.args.list.now = search rules in
    let told =
    fact_from_extend (λ x. x) c.extend.result c.extend.ensures.ran (λ it b. YieldsList-from_vec {s = it} _ b.0 (b.1 ∙ c.args.more.ok.0))
    (λ (xs : List Outgoing) e h. h.0 ∙ ap (λ z. c.list.inside.items.items ++ z) (sym (map-id xs) ∙ e) ∙ ap (λ z. z ++ more) stood) in
    subst (λ r. OnOk r (c.extend.new.self.items ≡ c.args.list.now ++ more)) c.in_ok-extend.was told
