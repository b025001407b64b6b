use Rattle.std.proofs.Common.{rules, not}
use Rattle.std.proofs.lemmas.List.Sorted.{IsPartitionPoint-from_clause}
use Rattle.message_layout.specs.inner.Arrivals.{stands_before, stands_behind}
use Rattle.message_layout.proofs.Sides.{Begins, Ends, before_parted, begins_first, behind_parted, found_between}
use Rattle.message_layout.proofs.arrivals.between.Goals as goal

pub slice_bounds-result-count : goal.slice_bounds-result-count
slice_bounds-result-count c =
    let begins : Begins c.args.arrivals.now c.args.to c.args.from c.partition_point-first.result =
    IsPartitionPoint-from_clause (λ a. stands_before a c.args.to c.args.from) _ _ c.partition_point-first.ensures.partitioned (before_parted _ _ _ c.requires) (λ a r q k. search rules) in
    let ends : Ends c.args.arrivals.now c.args.to c.args.from c.partition_point-end.result =
    IsPartitionPoint-from_clause (λ a. not (stands_behind a c.args.to c.args.from)) _ _ c.partition_point-end.ensures.partitioned (behind_parted _ _ _ c.requires) (λ a r q k. search rules) in
    begins_first c.args.arrivals.now c.args.to c.args.from c.partition_point-first.result c.partition_point-end.result c.partition_point-first.ensures.bound begins ends

pub returns : goal.returns
returns c =
    let begins : Begins c.args.arrivals.now c.args.to c.args.from c.partition_point-first.result =
    IsPartitionPoint-from_clause (λ a. stands_before a c.args.to c.args.from) _ _ c.partition_point-first.ensures.partitioned (before_parted _ _ _ c.requires) (λ a r q k. search rules) in
    let ends : Ends c.args.arrivals.now c.args.to c.args.from c.partition_point-end.result =
    IsPartitionPoint-from_clause (λ a. not (stands_behind a c.args.to c.args.from)) _ _ c.partition_point-end.ensures.partitioned (behind_parted _ _ _ c.requires) (λ a r q k. search rules) in
    found_between c.args.arrivals.now c.args.to c.args.from c.partition_point-first.result c.partition_point-end.result c.partition_point-end.ensures.bound
    (begins_first c.args.arrivals.now c.args.to c.args.from c.partition_point-first.result c.partition_point-end.result c.partition_point-first.ensures.bound begins ends) begins ends

pub slice_bounds-result-start : goal.slice_bounds-result-start
slice_bounds-result-start c = slice_bounds-result-count c
