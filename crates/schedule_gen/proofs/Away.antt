-- No process of a resolved system sends to itself, so each channel lies between two processes.
use Rattle.std.proofs.Common.{◌≡◌, ◌≢◌, refl, ℕ, zero, suc, ◌+◌, ◌<◌, ◌≤◌, Bool, true, false, ◌||◌, if◌then◌else◌, List, [], ◌∷◌, length, map, filter, arith, rules}
use Rattle.std.specs.List.{list_any, range_with_len}
use Rattle.std.proofs.lemmas.Bool.{ne_eqb}
use Rattle.std.proofs.lemmas.Grind.{common_steps}
use Rattle.tap_base.specs.declared.system.Action.{Action}
use Rattle.tap_base.specs.declared.system.Process.{Process}
use Rattle.tap_base.specs.declared.system.System.{System}
use Rattle.tap_base.specs.Lists.{Each, EachFrom}
use Rattle.tap_base.specs.Parts.{Deed, all_deeds, assign, choose, send, start, stop, test, turns}
use Rattle.tap_base.specs.Resolved.{IsMet, IsResolvedAction, IsResolvedProcess}
use Rattle.tap_base.specs.Scope.{Scope, scope_of}
use Rattle.tap_base.proofs.ListFacts.{each_append}
use Rattle.run_text.specs.ScheduleText.{AreTwo}
use Rattle.schedule_gen.specs.declared.routes.Route.{Route}
use Rattle.schedule_gen.specs.Sending.{is_send_to, send_to_among, route, routes_of, routes_from, sends_to}

abbrev pub IsApart : ℕ → Route → Type 0
IsApart n c = AreTwo n c.from c.to

neither : (a b : Bool) → a ≡ false → b ≡ false → (a || b) ≡ false
neither true b h k = cc
neither false b h k = k

-- ---- no process sends to itself

module _ (system : System) (p : ℕ) (process : Process) where
  not_sent : (s : Scope) (d : Deed) → IsMet system p process s d → is_send_to p d ≡ false
  not_sent s (assign targets values) h = refl
  not_sent s (choose target) h = refl
  not_sent s (send m values q) h = ne_eqb q p h.other
  not_sent s (start t delay) h = refl
  not_sent s (stop t) h = refl
  not_sent s (test guard) h = refl
  not_sent s (turns n) h = refl

  none_sent : (s : Scope) (ds : List Deed) → Each (IsMet system p process s) ds → send_to_among p ds ≡ false
  none_sent s [] h = refl
  none_sent s (d ∷ ds) h = neither (is_send_to p d) (send_to_among p ds) (not_sent s d h.0) (none_sent s ds h.1)

  none_acts : (actions : List Action) → Each (IsResolvedAction system p process) actions → list_any (λ (a : Action). send_to_among p (all_deeds a.body)) actions ≡ false
  none_acts [] h = refl
  none_acts (a ∷ more) h =
      neither (send_to_among p (all_deeds a.body)) (list_any (λ (b : Action). send_to_among p (all_deeds b.body)) more)
      (none_sent (scope_of system.messages process a.guard) (all_deeds a.body) h.0.body) (none_acts more h.1)

  not_to_itself : IsResolvedProcess system p process → sends_to process p ≡ false
  not_to_itself h = none_acts process.actions h.actions

-- ---- channels

differs : (x : Process) (q p : ℕ) → sends_to x q ≡ false → sends_to x p ≡ true → q ≢ p
differs x q p none some = λ e. search (rules, none, some, e)

apart_if : (n q a : ℕ) (x : Process) (b : Bool) (ps : List ℕ) → q < n → a < n → sends_to x q ≡ false → sends_to x a ≡ b
    → Each (IsApart n) (map (route q) ps) → Each (IsApart n) (map (route q) (if b then a ∷ ps else ps))
apart_if n q a x true ps sender receiver none some h = ((sender, receiver, differs x q a none some), h)
apart_if n q a x false ps sender receiver none some h = h

apart_from : (n q a m : ℕ) (x : Process) → q < n → a + m ≤ n → sends_to x q ≡ false → Each (IsApart n) (map (route q) (filter (sends_to x) (range_with_len a m)))
apart_from n q a zero x sender within none = tt
apart_from n q a (suc m) x sender within none =
    apart_if n q a x (sends_to x a) (filter (sends_to x) (range_with_len (a + 1) m)) sender (omega arith) none refl
    (apart_from n q (a + 1) m x sender (omega arith) none)

pub routes_apart : (system : System) (n q : ℕ) (xs : List Process) → q + length xs ≤ n → EachFrom q (IsResolvedProcess system) xs → Each (IsApart n) (routes_from n q xs)
routes_apart system n q [] within ok = tt
routes_apart system n q (x ∷ xs) within ok =
    let sender : q < n = grind (arith, common_steps, within) in
    let later : (q + 1) + length xs ≤ n = grind (arith, common_steps, within) in
    each_append (IsApart n) (routes_of n q x) (routes_from n (q + 1) xs) (apart_from n q 0 n x sender (omega arith) (not_to_itself system q x ok.0)) (routes_apart system n (q + 1) xs later ok.1)
