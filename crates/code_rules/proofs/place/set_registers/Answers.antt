use Rattle.std.proofs.Common.{◌≡◌, ◌+◌, ◌-◌, ◌++◌, length, map, take, ap, sym, subst, ◌∙◌, arith}
use Rattle.register_code.specs.Registers.{temporary_range}
use Rattle.code_rules.specs.Others.{AreOthers}
use Rattle.code_rules.proofs.OthersCounted.{counts_cut}
use Rattle.code_rules.proofs.Shared.{front_left}
use Rattle.code_rules.proofs.place.set_registers.Goals as goal

pub count_others-requires-clause-counted : goal.count_others-requires-clause-counted
count_others-requires-clause-counted c =
    let place = c.args.place.now in
    let within = c.requires.within in
    let ranges : c.as_slice.result.now ≡ take place.shared place.ranges ++ map temporary_range c.args.temporaries.now =
    c.as_slice.ensures ∙ c.in_ok-push_temporaries.ensures ∙ ap (λ xs. xs ++ map temporary_range c.args.temporaries.now) (c.drop_last.ensures ∙ ap (λ n. take n place.ranges) (omega (arith, within, c.len.ensures))) in
    let front : take place.shared c.as_slice.result.now ≡ take place.shared place.ranges = ap (take place.shared) ranges ∙ front_left place.ranges (map temporary_range c.args.temporaries.now) place.shared within in
    let count = length place.others - (c.len.result - place.shared) in
    let cut = counts_cut place.ranges place.others place.shared count within (omega (arith, within, c.len.ensures, c.requires.others.counted)) c.requires.others in
    subst (λ xs. AreOthers xs c.drop_last-2.new.all) (sym front) (subst (AreOthers (take place.shared place.ranges)) (sym c.drop_last-2.ensures) cut)
