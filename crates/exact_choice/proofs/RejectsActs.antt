-- An action leaves the errors that have arrived: it takes a message, and its sends come at the end, behind the mark. So does
-- a stop that takes sends back, since as many cells are in flight.
use Rattle.std.proofs.Common.{◌≡◌, ◌∙◌, ◌-◌, refl, ap, sym, ℕ, Bool, true, false, if◌then◌else◌, List, [], ◌∷◌, take, length, Option, Some, None, arith}
use Rattle.std.specs.Prelude.{count_by}
use Rattle.std.specs.Option.{option_map}
use Rattle.std.proofs.lemmas.List.{length-take, take_all, take-take}
use Rattle.tap_base.specs.Lists.{Each}
use Rattle.tap_base.specs.Option.{◌>>=◌, is_yes}
use Rattle.tap_base.proofs.ListFacts.{each_both, each_of}
use Rattle.tap_exec.specs.declared.running.Outgoing.{Outgoing}
use Rattle.tap_exec.specs.Semantics.{GuardSemantics, local, receive, timeout}
use Rattle.byte_meaning.specs.declared.cell.Cell.{Cell}
use Rattle.byte_meaning.specs.declared.cell.Cell.TheVariants as cell
use Rattle.abstract_run.specs.declared.state.Channel.{Channel}
use Rattle.abstract_run.specs.declared.state.State.{State}
use Rattle.abstract_run.specs.Channels.{all_sent, cell_of_send, first_taken, first_waiting, is_error, is_message, joins, last_gone, taken_back, waiting}
use Rattle.abstract_run.specs.Enabled.{guard_holds}
use Rattle.abstract_run.specs.Fits.{IsFitChannel}
use Rattle.abstract_run.specs.Step.{channels_at}
use Rattle.abstract_run.proofs.Apart.{Apart, each_found}
use Rattle.abstract_run.proofs.Fallen.{Flies, all_taken_back}
use Rattle.abstract_run.proofs.Found.{channel_of_is, found, found_one}
use Rattle.abstract_run.proofs.Mild.{Mild}
use Rattle.abstract_run.proofs.Moves.{addition}
use Rattle.abstract_run.proofs.OnChannel.{Ends, changed_each, joined, on_channel_is, taking, with_send}
use Rattle.abstract_run.proofs.Sent.{first_sent}
use Rattle.exact_choice.specs.Rejects.{arrived_errors}
use Rattle.exact_choice.proofs.RejectsCells.{end_leaves, message_leaves}
use Rattle.exact_choice.proofs.RejectsChannels.{KeepsEnds, Same, bad, bad_of, counted_same, turned}

pub mild_ends : (IsNew : Cell → Type 0) (f : Channel → Option Channel) → Mild IsNew f → KeepsEnds f
mild_ends IsNew f mild = λ c d e. (mild.from c d e, mild.to c d e)

-- ---- a receive

taking_ends : KeepsEnds taking
taking_ends c d e = let same : d ≡ first_taken c = cc in (ap (λ (x : Channel). x.from) same, ap (λ (x : Channel). x.to) same)

pub taken_same : (s : State) (p : ℕ) (g : GuardSemantics) (taken : List Channel) → Each IsFitChannel s.channels → is_yes (guard_holds s p g) ≡ true → channels_at p g s.channels ≡ Some taken
    → Same s.channels taken
taken_same s p (local test) taken fit ready e = let same : taken ≡ s.channels = cc in λ a b. ap (bad a b) same
taken_same s p (timeout t) taken fit ready e = let same : taken ≡ s.channels = cc in λ a b. ap (bad a b) same
taken_same s p (receive m q) taken fit ready e = by_cell (waiting s.channels q p) refl ready where
  by_cell : (o : Option Cell) → waiting s.channels q p ≡ o → is_yes (option_map (is_message m) o) ≡ true → Same s.channels taken
  by_cell None is h = cc
  by_cell (Some cell.Error) is h = cc
  by_cell (Some (cell.Msg k values)) is h =
      let x = turned q p taking taking_ends s.channels taken fit (sym (on_channel_is q p taking s.channels) ∙ e) in
      let first : first_waiting x.before ≡ Some (cell.Msg k values) = sym (ap (λ o. o >>= first_waiting) (channel_of_is q p s.channels ∙ x.stood)) ∙ is in
      let change = x.change in
      let after : x.after ≡ first_taken x.before = cc in
      counted_same q p taking s.channels taken x (ap arrived_errors after ∙ message_leaves x.before k values first)

-- ---- sends

pub sent_same : (q : ℕ) (os : List Outgoing) (cs ds : List Channel) → Each IsFitChannel cs → all_sent q os cs ≡ Some ds → Same cs ds
sent_same q [] cs ds fit e = let same : ds ≡ cs = cc in λ a b. ap (bad a b) same
sent_same q (o ∷ os) cs ds fit e =
    let x = first_sent q o os cs ds e in
    let send = addition (cell_of_send o) in
    let one = turned q o.to (with_send o) (mild_ends _ (with_send o) send) cs x.between fit x.first in
    let still = changed_each IsFitChannel q o.to (with_send o) (λ c d h is done. send.fits c d h done) cs x.between fit x.first in
    let first = counted_same q o.to (with_send o) cs x.between one (end_leaves (cell_of_send o) one.before one.after one.within one.change) in
    λ a b. sent_same q os x.between ds still x.rest a b ∙ first a b

-- ---- a stop that takes sends back

-- a front of the channel as it stood, with the mark that it had
record IsFront (cs : List Channel) (c : Channel) : Type 0 where
  was : Channel
  stood : found c.from c.to cs ≡ Some was
  mark : c.mark ≡ was.mark
  n : ℕ
  cells : c.cells ≡ take n was.cells

shorter_front : (cs : List Channel) (c : Channel) → IsFront cs c → IsFront cs (last_gone c)
shorter_front cs c x = record {
  was = x.was;
  stood = x.stood;
  mark = x.mark;
  n = length c.cells - 1;
  cells =
      ap (take (length c.cells - 1)) x.cells
      ∙ take-take (length c.cells - 1) x.n x.was.cells (let few = ap length x.cells in omega (arith, few, length-take x.n x.was.cells));
}

whole_front : (cs : List Channel) → Apart cs → Each (IsFront cs) cs
whole_front cs apart =
    each_found (λ c. Unit {0}) (IsFront cs) cs apart (each_of (λ c. Unit {0}) cs (λ c. tt)) (λ c u e.
    record { was = c; stood = e; mark = refl; n = length c.cells; cells = sym (take_all (length c.cells) c.cells (omega arith)) })

front_errors : (cs : List Channel) (c : Channel) → IsFitChannel c → IsFront cs c → arrived_errors c ≡ bad c.from c.to cs
front_errors cs c fit x =
    let few = ap length x.cells in
    let within = fit.1 in
    ap (λ xs. count_by is_error (take c.mark xs)) x.cells
    ∙ ap (count_by is_error) (take-take c.mark x.n x.was.cells (omega (arith, few, within, length-take x.n x.was.cells)) ∙ ap (λ n. take n x.was.cells) x.mark)
    ∙ ap bad_of (sym x.stood)

none_either : (a b : ℕ) (cs ds : List Channel) → Ends ds cs → found a b ds ≡ None → found a b cs ≡ None
none_either a b [] ds h e = refl
none_either a b (c ∷ cs) [] h e = let no = h.0 in cc
none_either a b (c ∷ cs) (d ∷ ds) h e =
    let froms = h.0 in
    let tos = h.1 in
    let from : d.from ≡ c.from = cc in
    let to : d.to ≡ c.to = cc in
    let same : joins a b d ≡ joins a b c = rw (from, to) refl in
    by_test (joins a b c) (sym (ap (λ (t : Bool). if t then Some d else found a b ds) same) ∙ e) (none_either a b cs ds (cc, cc)) where
      by_test : (t : Bool) → (if t then Some d else found a b ds) ≡ None → (found a b ds ≡ None → found a b cs ≡ None) → (if t then Some c else found a b cs) ≡ None
      by_test true e more = cc
      by_test false e more = more e

pub fallen_same : (q : ℕ) (rs : List ℕ) (cs ds : List Channel) → Apart cs → Each IsFitChannel cs → Flies q rs cs → taken_back q rs cs ≡ Some ds → Same cs ds
fallen_same q rs cs ds apart fit flies e = λ a b. by_found a b (found a b ds) refl where
  by_found : (a b : ℕ) (o : Option Channel) → found a b ds ≡ o → bad_of o ≡ bad a b cs
  by_found a b None is =
      let x = all_taken_back (IsFront cs) (shorter_front cs) q rs cs ds fit (whole_front cs apart) flies e in
      ap bad_of (sym (none_either a b cs ds x.ends is))
  by_found a b (Some d) is =
      let x = all_taken_back (IsFront cs) (shorter_front cs) q rs cs ds fit (whole_front cs apart) flies e in
      let one = found_one (λ c. IsFitChannel c × IsFront cs c) a b ds d (each_both IsFitChannel (IsFront cs) ds x.fit x.each) is in
      let ends = joined a b d one.1 in
      front_errors cs d one.0.0 one.0.1 ∙ ap (λ r. bad r d.to cs) ends.0 ∙ ap (λ r. bad a r cs) ends.1
