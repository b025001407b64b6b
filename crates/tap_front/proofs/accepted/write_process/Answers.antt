use Rattle.std.proofs.Common.{◌≡◌, ◌<◌, ◌++◌, ◌∙◌, ℕ, List, IfSome, OnOk, Result, Ok, Err, Some, refl, ap, sym, subst, get_or, slice_get, length}
use Rattle.std.specs.Option.{option_map}
use Rattle.std.proofs.lemmas.Option.{same_Some, slice_get_read}
use Rattle.tap_base.specs.declared.system.Process.{Process}
use Rattle.width_check.specs.Cost.{process_cost}
use Rattle.tap_front.specs.Acceptance.{line_of, process_line}
use Rattle.tap_front.proofs.accepted.write_process.Goals as goal

-- what was written of a process is its line, where the parts are its own
line_written : {T E : Type 0} (r : Result T E) (ps qs : List Process) (at cost count : ℕ) (p : Process) (name before after : List ℕ) → at < length ps → qs ≡ ps → p ≡ get_or qs at p → name ≡ p.name
    → count ≡ length p.actions → option_map process_cost (slice_get ps at) ≡ Some cost → OnOk r (after ≡ before ++ line_of name count cost)
    → OnOk r (IfSome (slice_get ps at) (λ q. after ≡ before ++ process_line q))
line_written (Err e) ps qs at cost count p name before after there same is named counted costs written = tt
line_written (Ok x) ps qs at cost count p name before after there same is named counted costs written =
    let found : slice_get ps at ≡ Some p = subst (λ l. slice_get l at ≡ Some p) same (slice_get_read qs (length qs) at p refl (subst (λ l. at < length l) (sym same) there) is) in
    let cost_is : cost ≡ process_cost p = same_Some _ _ (sym costs ∙ ap (option_map process_cost) found) in
    subst (λ o. IfSome o (λ q. after ≡ before ++ process_line q)) (sym found)
    (written ∙ ap (λ z. before ++ z) (ap (λ n. line_of n count cost) named ∙ ap (λ n. line_of p.name n cost) counted ∙ ap (λ n. line_of p.name (length p.actions) n) cost_is))

pub returns : goal.returns
returns c =
    line_written c.write_line.result c.args.checked.now.processes c.as_slice.result.now c.args.at c.cost-cost.result c.len.result c.index-as_slice-at.result c.as_str.result.now _ _ c.requires
    (c.as_slice.ensures ∙ ap (λ s. s.processes) c.system.ensures.system) c.index-as_slice-at.is c.as_str.ensures c.len.ensures c.cost-cost.ensures c.write_line.ensures
