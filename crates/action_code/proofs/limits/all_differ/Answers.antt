use Rattle.std.proofs.Common.{◌≡◌, ◌<◌, true, false, length, take, ap, sym, ◌∙◌, arith}
use Rattle.register_code.specs.Declarations.{is_one_of}
use Rattle.tap_names.specs.Tables.{entries_of, is_among, names_in}
use Rattle.action_code.proofs.Naming.{names_more, new_here, old_here, same_among}
use Rattle.action_code.proofs.limits.all_differ.Goals as goal

pub returns-then-has : goal.returns-then-has
returns-then-has c =
    let x = c.name-item.result in
    let inside : c.names.name-index < length c.args.names.now = omega arith in
    let known : is_among c.as_str.result.now (names_in (entries_of c.names.known)) ≡ true = sym c.has.ensures ∙ c.if-has.true in
    let among : is_one_of x (take c.names.name-index c.args.names.now) ≡ true =
    sym (same_among x (take c.names.name-index c.args.names.now)) ∙ ap (is_among x) (sym c.names.invariant.0) ∙ ap (λ y. is_among y (names_in (entries_of c.names.known))) (sym c.as_str.ensures) ∙ known in
    sym (old_here c.args.names.now c.names.name-index x inside c.name-item.is among) ∙ c.names.invariant.1

pub names-preserved : goal.names-preserved
names-preserved c =
    let x = c.name-item.result in
    let inside : c.names.name-index < length c.args.names.now = omega arith in
    let known : is_among c.as_str.result.now (names_in (entries_of c.names.known)) ≡ false = sym c.has.ensures ∙ c.if-has.false in
    let among : is_one_of x (take c.names.name-index c.args.names.now) ≡ false =
    sym (same_among x (take c.names.name-index c.args.names.now)) ∙ ap (is_among x) (sym c.names.invariant.0) ∙ ap (λ y. is_among y (names_in (entries_of c.names.known))) (sym c.as_str.ensures) ∙ known in (
      names_more (entries_of c.names.known) (entries_of c.declare.new.self) c.args.names.now c.names.name-index x c.as_str-in-names.result.now _ c.in_ok-declare.ensures c.names.invariant.0 c.as_str-in-names.ensures inside c.name-item.is,
      sym (new_here c.args.names.now c.names.name-index x inside c.name-item.is among) ∙ c.names.invariant.1,
    )
