use Rattle.std.proofs.Common.{ℤ, ap, ◌∙◌, rules}
use Rattle.std.proofs.lemmas.Int.{to_z-of_z}
use Rattle.std.specs.Int.{w64}
use Rattle.code_steps.proofs.Moved.{saved, put_in}
use Rattle.code_steps.proofs.plain.save.Goals as goal

pub returns : goal.returns
returns c =
    let same = to_z-of_z w64 c.get-x.result (search rules) in
    saved c.args.base c.args.run c.args.index c.args.a c.place-to.result c.get-x.result c.args.core.now c.put.new.self c.place-to.ensures.place c.get-x.ensures (c.put.ensures ∙ ap (λ (z : ℤ). put_in c.place-to.result z c.args.core.now) same)
