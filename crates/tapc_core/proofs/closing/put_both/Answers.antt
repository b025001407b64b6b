use Rattle.std.proofs.Common.{◌≡◌, ◌++◌, ℕ, List, Option, Result, Ok, Err, ap, ◌∙◌, sym, append_assoc}
use Rattle.std.specs.Result.{IsErr}
use Rattle.std.specs.Io.KnownBytes.{Appends}
use Rattle.link_trait.specs.Outside.{PutAppends}
use Rattle.tapc_core.proofs.Steps.{appends_more}
use Rattle.tapc_core.proofs.closing.put_both.Goals as goal

-- a put that failed gave a front of more bytes too
front_of_more : {T E : Type 0} (a b : Option (List ℕ)) (r : Result T E) (page last front rest : List ℕ) → IsErr r → front ++ rest ≡ page → Appends a b front → PutAppends a b r (page ++ last)
front_of_more a b (Ok x) page last front rest failed cut told = cc
front_of_more a b (Err e) page last front rest failed cut told = (front, rest ++ last, sym (append_assoc front rest last) ∙ ap (λ x. x ++ last) cut, told)

-- a second put goes on behind the first
put_behind : {T E : Type 0} (a b c : Option (List ℕ)) (r : Result T E) (page last : List ℕ) → Appends a b page → PutAppends b c r last → PutAppends a c r (page ++ last)
put_behind a b c (Ok x) page last told more = appends_more a b c page last told more
put_behind a b c (Err e) page last told more =
    (page ++ more.0, more.1, append_assoc page more.0 more.1 ∙ ap (λ x. page ++ x) more.2, appends_more a b c page more.0 told more.3)

pub returns-in_err-put-clause-appends : goal.returns-in_err-put-clause-appends
returns-in_err-put-clause-appends g c =
    let h = c.in_err-put.ensures.appends in
    front_of_more _ _ c.from_residual.result c.args.page.now c.args.last.now h.0 h.1 c.from_residual.ensures.0 h.2 h.3

pub returns-clause-appends : goal.returns-clause-appends
returns-clause-appends g c = put_behind _ (g.O.Sink.written c.put-2.new.self) _ c.put-3.result c.args.page.now c.args.last.now c.in_ok-put.ensures.appends c.put-3.ensures.appends
