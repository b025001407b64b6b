-- What the receives of a system tell of the tree that names it.
use Rattle.std.proofs.Common.{◌≡◌, ℕ, zero, suc, ◌+◌, ◌<◌, refl, sym, ◌∙◌, ap, Bool, true, false, ◌&&◌, ◌||◌, List, [], ◌∷◌, Option, Some, None, map, arith}
use Rattle.std.specs.Prelude.{◌==◌, slice_get, bytes_eq}
use Rattle.std.specs.BTreeSet.{BTreeSet, contains}
use Rattle.std.specs.List.{list_any}
use Rattle.std.proofs.Math.Path.{fun_ext}
use Rattle.std.specs.Option.{option_and_then}
use Rattle.std.proofs.lemmas.Bool.{eq-eqb, ne_eqb}
use Rattle.std.proofs.lemmas.List.Folds.{list_any-append}
use Rattle.std.proofs.lemmas.Option.{option_and_then_some, same_Some}
use Rattle.tap_base.specs.declared.ast.AstAction.{AstAction}
use Rattle.tap_base.specs.declared.ast.AstGuard.{AstGuard}
use Rattle.tap_base.specs.declared.ast.AstGuard.TheVariants as guard
use Rattle.tap_base.specs.declared.ast.AstMessage.{AstMessage}
use Rattle.tap_base.specs.declared.ast.AstProcess.{AstProcess}
use Rattle.tap_base.specs.declared.system.Action.{Action}
use Rattle.tap_base.specs.declared.system.Guard.{Guard}
use Rattle.tap_base.specs.declared.system.Guard.TheVariants as when
use Rattle.tap_base.specs.declared.system.Process.{Process}
use Rattle.tap_base.specs.declared.tree.Stmt.{Stmt}
use Rattle.tap_base.specs.declared.wire.Receive.{Receive}
use Rattle.tap_base.specs.Option.{each}
use Rattle.tap_base.proofs.OptionFacts.{option_map_some}
use Rattle.tap_names.specs.declared.table.Table.{Table}
use Rattle.tap_names.specs.Declarations.{process_names}
use Rattle.tap_base.specs.ListWords.{by_number, joined}
use Rattle.tap_names.specs.MessageOffences.{message_names}
use Rattle.tap_names.specs.Tables.{entries_of, names_in}
use Rattle.tap_types.specs.ActionOffences.{after_guard, process_scope}
use Rattle.tap_types.specs.Scopes.{Scope, is_number, message_in, number_of, process_in}
use Rattle.tap_types.specs.SendOffences.{is_received, receives_from, takes_from, unreceived_of}
use Rattle.tap_types.specs.Systems.{action_of, body_of, expr_of, guard_of, process_of, processes_of, timer_in}
use Rattle.tap_base.specs.Wires.{receive_by, received_by_actions, received_by_process, receives_of}
use Rattle.tap_types.specs.inner.Receiving.{HoldsEach, Numbers, compared, is_held, is_of, of_three}
use Rattle.tap_types.proofs.Positions.{same_number}
use Rattle.tap_types.proofs.whole.ProcessParts.{of_process}

or_none : (b : Bool) → (b || false) ≡ b
or_none true = refl
or_none false = refl

no_one : {A : Type 0} (p : A → Bool) → ((x : A) → p x ≡ false) → (xs : List A) → list_any p xs ≡ false
no_one p h [] = refl
no_one p h (x ∷ xs) = ap (λ z. z || list_any p xs) (h x) ∙ no_one p h xs

-- a receive of these numbers of a message and a sender, where there are both
abbrev pub is_from : Option ℕ → Option ℕ → Receive → Bool
is_from m s r = is_number r.message m && is_number r.from s

-- the same, by the process numbered k
abbrev pub is_by : ℕ → Option ℕ → Option ℕ → Receive → Bool
is_by k m s r = k == r.by && is_from m s r

-- ---- the receives of one process

module _ (c : Scope) (sender message : List ℕ) where
  abbrev T : Receive → Bool
  T = is_from (message_in c message) (process_in c sender)

  guard_same : (n : ℕ) (g : AstGuard) (w : Guard) → guard_of c g ≡ Some w → list_any T (receive_by n w) ≡ takes_from sender message g
  guard_same n (guard.Local e) w h = option_map_some when.Local (expr_of c e) w h (λ x r t. ap (λ z. list_any T (receive_by n z)) (sym t))
  guard_same n (guard.Timeout t) w h = option_map_some when.Timeout (timer_in c t) w h (λ x r u. ap (λ z. list_any T (receive_by n z)) (sym u))
  guard_same n (guard.Receive m q) w h =
      let K : ℕ → ℕ → Option Guard = λ k p. Some (when.Receive k p) in
      option_and_then_some (λ k. option_and_then (K k) (process_in c q.text)) (message_in c m.text) w h
      (λ k r s. option_and_then_some (K k) (process_in c q.text) w s
      (λ p t u. ap (λ z. list_any T (receive_by n z)) (sym (same_Some (when.Receive k p) w u))
      ∙ or_none (is_number k (message_in c message) && is_number p (process_in c sender))
      ∙ ap (λ z. z && is_number p (process_in c sender)) (same_number m.text message (message_names c.messages) k r)
      ∙ ap (λ z. bytes_eq m.text message && z) (same_number q.text sender c.processes p t)))

  action_guard : (a : AstAction) (w : Action) → action_of c a ≡ Some w → guard_of c a.guard ≡ Some w.guard
  action_guard a w h =
      let K : Guard → List Stmt → Option Action = λ g b. Some (record { guard = g; body = b; place = a.place }) in
      option_and_then_some (λ g. option_and_then (K g) (body_of (after_guard c a.guard) a.body)) (guard_of c a.guard) w h
      (λ g r s. option_and_then_some (K g) (body_of (after_guard c a.guard) a.body) w s
      (λ b t u. r ∙ ap (λ (z : Action). Some z.guard) (same_Some _ w u)))

  actions_same : (n : ℕ) (as_ : List AstAction) (ws : List Action) → each (action_of c) as_ ≡ Some ws → list_any T (received_by_actions n ws) ≡ list_any (λ a. takes_from sender message a.guard) as_
  actions_same n [] ws h = ap (λ z. list_any T (received_by_actions n z)) (sym (same_Some [] ws h))
  actions_same n (a ∷ as_) ws h =
      let F : AstAction → Bool = λ a. takes_from sender message a.guard in
      option_and_then_some (λ w. option_and_then (λ vs. Some (w ∷ vs)) (each (action_of c) as_)) (action_of c a) ws h
      (λ w r s. option_and_then_some (λ vs. Some (w ∷ vs)) (each (action_of c) as_) ws s
      (λ vs t u. ap (λ z. list_any T (received_by_actions n z)) (sym (same_Some (w ∷ vs) ws u))
      ∙ list_any-append T (receive_by n w.guard) (received_by_actions n vs)
      ∙ ap (λ z. z || list_any T (received_by_actions n vs)) (guard_same n a.guard w.guard (action_guard a w r))
      ∙ ap (λ z. F a || z) (actions_same n as_ vs t)))

process_same : (messages : List AstMessage) (names : List (List ℕ)) (sender message : List ℕ) (n : ℕ) (p : AstProcess) (w : Process) → process_of messages names n p ≡ Some w → list_any (is_from (number_of message (message_names messages)) (number_of sender names)) (received_by_process n w) ≡ receives_from sender message (Some p)
process_same messages names sender message n p w e =
    let T = is_from (number_of message (message_names messages)) (number_of sender names) in
    let o = of_process messages names n p w e in
    ap (λ (q : Process). list_any T (received_by_actions n q.actions)) (sym o.is) ∙ actions_same (process_scope messages names n o.names) sender message n p.actions o.actions o.of_actions

-- ---- the receives of all processes, asked for one process

module _ (k : ℕ) (m s : Option ℕ) where
  own_guard : (n : ℕ) (g : Guard) (b : Bool) → (k == n) ≡ b → list_any (is_by k m s) (receive_by n g) ≡ (b && list_any (is_from m s) (receive_by n g))
  own_guard n (when.Local e) true h = refl
  own_guard n (when.Local e) false h = refl
  own_guard n (when.Timeout t) true h = refl
  own_guard n (when.Timeout t) false h = refl
  own_guard n (when.Receive i p) true h = ap (λ z. (z && is_from m s (record { by = n; from = p; message = i })) || false) h
  own_guard n (when.Receive i p) false h = ap (λ z. (z && is_from m s (record { by = n; from = p; message = i })) || false) h

  shared : (b x y : Bool) → ((b && x) || (b && y)) ≡ (b && (x || y))
  shared true x y = refl
  shared false x y = refl

  none_shared : (b : Bool) → (b && false) ≡ false
  none_shared true = refl
  none_shared false = refl

  own_actions : (n : ℕ) (ws : List Action) → list_any (is_by k m s) (received_by_actions n ws) ≡ (k == n && list_any (is_from m s) (received_by_actions n ws))
  own_actions n [] = sym (none_shared (k == n))
  own_actions n (w ∷ ws) =
      let F = is_by k m s in
      let T = is_from m s in
      list_any-append F (receive_by n w.guard) (received_by_actions n ws)
      ∙ ap (λ z. z || list_any F (received_by_actions n ws)) (own_guard n w.guard (k == n) refl)
      ∙ ap (λ z. (k == n && list_any T (receive_by n w.guard)) || z) (own_actions n ws)
      ∙ shared (k == n) (list_any T (receive_by n w.guard)) (list_any T (received_by_actions n ws))
      ∙ ap (λ z. k == n && z) (sym (list_any-append T (receive_by n w.guard) (received_by_actions n ws)))

  other_process : (n : ℕ) (w : Process) → (k ≡ n → ⊥) → list_any (is_by k m s) (received_by_process n w) ≡ false
  other_process n w h = own_actions n w.actions ∙ ap (λ z. z && list_any (is_from m s) (received_by_process n w)) (ne_eqb k n h)

  later : (n : ℕ) (ws : List Process) → k < n → list_any (is_by k m s) (by_number n received_by_process ws) ≡ false
  later n [] l = refl
  later n (w ∷ ws) l =
      list_any-append (is_by k m s) (received_by_process n w) (by_number (n + 1) received_by_process ws)
      ∙ ap (λ z. z || list_any (is_by k m s) (by_number (n + 1) received_by_process ws)) (other_process n w (λ e. omega (arith, e, l)))
      ∙ later (n + 1) ws (omega (arith, l))

module _ (messages : List AstMessage) (names : List (List ℕ)) (sender message : List ℕ) (k : ℕ) where
  abbrev F : Receive → Bool
  F = is_by k (number_of message (message_names messages)) (number_of sender names)

  asked : (j n : ℕ) (ps : List AstProcess) (ws : List Process) → k ≡ n + j → processes_of messages names n ps ≡ Some ws → list_any F (by_number n received_by_process ws) ≡ receives_from sender message (slice_get ps j)
  asked j n [] ws e h = ap (λ z. list_any F (by_number n received_by_process z)) (sym (same_Some [] ws h))
  asked zero n (p ∷ ps) ws e h =
      let m = number_of message (message_names messages) in
      let s = number_of sender names in
      let same : k ≡ n = omega (arith, e) in
      option_and_then_some (λ w. option_and_then (λ vs. Some (w ∷ vs)) (processes_of messages names (n + 1) ps)) (process_of messages names n p) ws h
      (λ w r t. option_and_then_some (λ vs. Some (w ∷ vs)) (processes_of messages names (n + 1) ps) ws t
      (λ vs u v. ap (λ z. list_any F (by_number n received_by_process z)) (sym (same_Some (w ∷ vs) ws v))
      ∙ list_any-append F (received_by_process n w) (by_number (n + 1) received_by_process vs)
      ∙ ap (λ z. list_any F (received_by_process n w) || z) (later k m s (n + 1) vs (omega (arith, e)))
      ∙ or_none (list_any F (received_by_process n w))
      ∙ own_actions k m s n w.actions
      ∙ ap (λ z. z && list_any (is_from m s) (received_by_process n w)) (eq-eqb k n same)
      ∙ process_same messages names sender message n p w r))
  asked (suc j) n (p ∷ ps) ws e h =
      let m = number_of message (message_names messages) in
      let s = number_of sender names in
      option_and_then_some (λ w. option_and_then (λ vs. Some (w ∷ vs)) (processes_of messages names (n + 1) ps)) (process_of messages names n p) ws h
      (λ w r t. option_and_then_some (λ vs. Some (w ∷ vs)) (processes_of messages names (n + 1) ps) ws t
      (λ vs u v. ap (λ z. list_any F (by_number n received_by_process z)) (sym (same_Some (w ∷ vs) ws v))
      ∙ list_any-append F (received_by_process n w) (by_number (n + 1) received_by_process vs)
      ∙ ap (λ z. z || list_any F (by_number (n + 1) received_by_process vs)) (other_process k m s n w (λ d. omega (arith, d, e)))
      ∙ asked j (n + 1) ps vs (omega (arith, e)) u))

-- ---- by names

-- a test of the numbers of the receives, where one number is missing or none
by_three : (f : Numbers → Bool) (rs : List Receive) → ((q : Numbers) → f q ≡ list_any (is_of q) rs) → (k : ℕ) (s m : Option ℕ) → of_three f (Some k) s m ≡ list_any (is_by k m s) rs
by_three f rs h k None None = sym (no_one (is_by k None None) (λ r. none_right (k == r.by)) rs) where
  none_right : (b : Bool) → (b && false) ≡ false
  none_right true = refl
  none_right false = refl
by_three f rs h k None (Some m) = sym (no_one (is_by k (Some m) None) (λ r. none_last (k == r.by) (m == r.message)) rs) where
  none_last : (b d : Bool) → (b && (d && false)) ≡ false
  none_last true true = refl
  none_last true false = refl
  none_last false d = refl
by_three f rs h k (Some s) None = sym (no_one (is_by k None (Some s)) (λ r. none_middle (k == r.by)) rs) where
  none_middle : (b : Bool) → (b && false) ≡ false
  none_middle true = refl
  none_middle false = refl
by_three f rs h k (Some s) (Some m) = h (k, s, m)

-- what the numbers tell is what the actions tell
pub told : (messages : List AstMessage) (ps : List AstProcess) (ws : List Process) → processes_of messages (process_names ps) 0 ps ≡ Some ws → (f : Numbers → Bool) → ((q : Numbers) → f q ≡ list_any (is_of q) (receives_of ws)) → (sender message receiver : List ℕ) → of_three f (number_of receiver (process_names ps)) (number_of sender (process_names ps)) (number_of message (message_names messages)) ≡ is_received ps sender message receiver
told messages ps ws e f h sender message receiver = by (number_of receiver (process_names ps)) where
  by : (o : Option ℕ) → of_three f o (number_of sender (process_names ps)) (number_of message (message_names messages)) ≡ receives_from sender message (option_and_then (λ n. slice_get ps n) o)
  by None = refl
  by (Some k) =
      by_three f (receives_of ws) h k (number_of sender (process_names ps)) (number_of message (message_names messages))
      ∙ asked messages (process_names ps) sender message k k 0 ps ws (omega arith) e

-- the same of all sends of a tree
pub all_told : (messages : List AstMessage) (ps : List AstProcess) (ws : List Process) → processes_of messages (process_names ps) 0 ps ≡ Some ws → (mt pt : Table (Unit {0})) (numbers : BTreeSet Numbers) → names_in (entries_of mt) ≡ message_names messages → names_in (entries_of pt) ≡ process_names ps → HoldsEach (receives_of ws) numbers → joined (map (unreceived_of (is_held mt pt numbers)) ps) ≡ joined (map (unreceived_of (is_received ps)) ps)
all_told messages ps ws e mt pt numbers m p h =
    let f = contains compared numbers in
    let same : is_held mt pt numbers ≡ is_received ps = fun_ext (λ s. fun_ext (λ x. fun_ext (λ y.
    ap (λ z. of_three f (number_of y z) (number_of s z) (number_of x (names_in (entries_of mt)))) p
    ∙ ap (λ z. of_three f (number_of y (process_names ps)) (number_of s (process_names ps)) (number_of x z)) m
    ∙ told messages ps ws e f h s x y))) in
    ap (λ z. joined (map (unreceived_of z) ps)) same
