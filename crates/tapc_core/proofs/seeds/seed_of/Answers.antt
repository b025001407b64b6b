use Rattle.std.proofs.Common.{rules}
use Rattle.tapc_core.proofs.SeedTexts.{cut_seed, uncut}
use Rattle.tapc_core.proofs.seeds.seed_of.Goals as goal

pub returns-in_err-name : goal.returns-in_err-name
returns-in_err-name c = let none = uncut c.args.word.now c.in_err-name.ensures in search (rules, none)

pub returns-in_err-seed : goal.returns-in_err-seed
returns-in_err-seed c =
    let cut = cut_seed c.args.word.now c.in_ok-name.name.now c.in_ok-name.number.now c.in_ok-name.ensures.0 c.in_ok-name.ensures.1 in
    let none = c.in_err-seed.ensures in
    search (rules, cut, none)

pub returns-else-eq : goal.returns-else-eq
returns-else-eq c =
    let cut = cut_seed c.args.word.now c.in_ok-name.name.now c.in_ok-name.number.now c.in_ok-name.ensures.0 c.in_ok-name.ensures.1 in
    let some = c.in_ok-seed.ensures in
    let other = c.if-eq.ensures in
    let false_ = c.if-eq.false in
    search (rules, cut, some, other, false_)

pub returns-then-eq : goal.returns-then-eq
returns-then-eq c =
    let cut = cut_seed c.args.word.now c.in_ok-name.name.now c.in_ok-name.number.now c.in_ok-name.ensures.0 c.in_ok-name.ensures.1 in
    let some = c.in_ok-seed.ensures in
    let same = c.if-eq.ensures in
    let true_ = c.if-eq.true in
    search (rules, cut, some, same, true_)
