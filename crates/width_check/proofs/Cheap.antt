-- Where there is no offence, each cost is one that is kept.
use Rattle.std.proofs.Common.{◌≡◌, ℕ, zero, suc, false, ap, sym, subst, ◌∙◌, List, [], ◌∷◌, ◌++◌, flat_map, map, slice_get, Some, arith}
use Rattle.std.specs.Prelude.{nat_lt}
use Rattle.std.specs.Option.{option_map}
use Rattle.tap_base.specs.declared.refusal.RefusalCode.TheVariants.{W6, W7}
use Rattle.tap_base.specs.declared.system.Action.{Action}
use Rattle.tap_base.specs.declared.system.Message.{Message}
use Rattle.tap_base.specs.declared.system.Process.{Process}
use Rattle.tap_base.specs.declared.system.System.{System}
use Rattle.tap_base.specs.Lists.{Each}
use Rattle.tap_base.specs.Offences.{where_}
use Rattle.tap_base.specs.Scope.{scope_of}
use Rattle.tap_base.proofs.ListFacts.{both_empty}
use Rattle.tap_base.proofs.OffenceFacts.{unmet}
use Rattle.tap_base.specs.Sends.{action_sends}
use Rattle.width_check.specs.Cost.{action_cost, greatest, process_cost}
use Rattle.width_check.specs.Offences.{action_offences, guard_offences, limit_offences, most_cost, most_sends, offences, process_offences}
use Rattle.width_check.specs.StmtOffences.{body_offences}
use Rattle.width_check.specs.inner.Answering.{IsCheap}

none_at : {A B : Type 0} (f : A → List B) (xs : List A) (k : ℕ) (x : A) → flat_map f xs ≡ [] → slice_get xs k ≡ Some x → f x ≡ []
none_at f [] k x e h = cc
none_at {A} {B} f (y ∷ xs) zero x e h = let same : y ≡ x = cc in let F : A → Type 0 = λ z. f z ≡ [] in subst F same (both_empty (f y) (flat_map f xs) e).0
none_at f (y ∷ xs) (suc k) x e h = none_at f xs k x (both_empty (f y) (flat_map f xs) e).1 h

each_none : {A B : Type 0} (f : A → List B) (P : A → Type 0) (xs : List A) → ((x : A) → f x ≡ [] → P x) → flat_map f xs ≡ [] → Each P xs
each_none f P [] g e = tt
each_none f P (x ∷ xs) g e = let n = both_empty (f x) (flat_map f xs) e in (g x n.0, each_none f P xs g n.1)

cheap : (messages : List Message) (p : Process) (a : Action) → action_offences messages p a ≡ [] → IsCheap a
cheap messages p a e =
    let s = scope_of messages p a.guard in
    let last = (both_empty (guard_offences s a.guard ++ body_offences messages s a.body) (limit_offences a) e).1 in
    let first = (both_empty (where_ (nat_lt most_cost (action_cost a)) W6 a.place) (where_ (nat_lt most_sends (action_sends a)) W7 a.place) last).0 in
    let few : nat_lt most_cost (action_cost a) ≡ false = unmet (nat_lt most_cost (action_cost a)) W6 a.place first in
    grind arith

pub all_cheap : (system : System) (k : ℕ) (p : Process) → offences system ≡ [] → slice_get system.processes k ≡ Some p → Each IsCheap p.actions
all_cheap system k p e h =
    each_none (action_offences system.messages p) IsCheap p.actions (cheap system.messages p) (none_at (process_offences system.messages) system.processes k p e h)

pub cost_is : (s t : System) (ps : List Process) (k : ℕ) (p : Process) (as_ : List Action) (n : ℕ) → s ≡ t → ps ≡ s.processes → slice_get ps k ≡ Some p → as_ ≡ p.actions → n ≡ greatest (map action_cost as_)
    → option_map process_cost (slice_get t.processes k) ≡ Some n
cost_is s t ps k p as_ n e f h g m =
    ap (λ (u : System). option_map process_cost (slice_get u.processes k)) (sym e) ∙ ap (λ qs. option_map process_cost (slice_get qs k)) (sym f) ∙ ap (option_map process_cost) h
    ∙ ap (λ xs. Some (greatest (map action_cost xs))) (sym g) ∙ ap Some (sym m)
