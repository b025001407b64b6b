use Rattle.std.proofs.Common.{◌≡◌, ℕ, length, ap, subst, arith}
use Rattle.register_code.specs.Declarations.{field_fits}
use Rattle.register_code.proofs.Passing.{all_at}
use Rattle.drawn_steps.specs.Boxes.{Boxed}
use Rattle.drawn_steps.proofs.SentOut.{IsFilling, can_fill, filling_begins, fills_all, fills_on}
use Rattle.drawn_steps.proofs.sending.fill.Goals as goal

pub loop-at-init : goal.loop-at-init
loop-at-init c = filling_begins c.args.fields.now c.args.given.now c.args.out.now c.requires.given

pub fill_one-used-requires-clause-fits : goal.fill_one-used-requires-clause-fits
fill_one-used-requires-clause-fits c = all_at field_fits c.args.fields.now c.loop-at.at c.field_at.result c.requires.fits c.field_at.ensures

pub fill_one-used-requires-clause-given : goal.fill_one-used-requires-clause-given
fill_one-used-requires-clause-given c = can_fill c.args.fields.now c.args.given.now c.args.out.now c.loop-at.out c.loop-at.at c.loop-at.used c.field_at.result c.loop-at.invariant c.field_at.ensures

pub fill_one-used-requires-clause-room : goal.fill_one-used-requires-clause-room
fill_one-used-requires-clause-room c =
    let same = ap (λ (b : Boxed). b.values_room) c.loop-at.invariant.same in
    omega (arith, c.requires.room, same, c.loop-at.invariant.counted)

pub loop-at-preserved : goal.loop-at-preserved
loop-at-preserved c =
    fills_on c.args.fields.now c.args.given.now c.args.out.now c.loop-at.out c.fill_one-used.new.out c.loop-at.at c.loop-at.used c.fill_one-used.result c.field_at.result c.loop-at.invariant c.field_at.ensures c.fill_one-used.ensures

pub returns : goal.returns
returns c =
    let end : c.loop-at.at ≡ length c.args.fields.now = omega arith in
    fills_all c.args.fields.now c.args.given.now c.args.out.now c.loop-at.out c.loop-at.used (subst (λ (n : ℕ). IsFilling c.args.fields.now c.args.given.now c.args.out.now n c.loop-at.used c.loop-at.out) end c.loop-at.invariant)
