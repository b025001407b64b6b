use Rattle.std.proofs.Common.{◌∙◌}
use Rattle.std.proofs.lemmas.List.Filters.{dedup_is}
use Rattle.message_layout.proofs.Orders.{arrivals_found, same_arrival}
use Rattle.message_layout.proofs.arrivals.arrivals_of.Goals as goal

pub returns : goal.returns
returns c =
    arrivals_found c.args.receives.now c.in_ok-found.found.items c.sort_unstable.new.self.items c.from_vec.result c.in_ok-found.ensures
    c.sort_unstable.ensures.permutation c.sort_unstable.ensures.sorted (c.from_vec.ensures ∙ dedup_is same_arrival _ _ c.dedup.ensures.filtered)
