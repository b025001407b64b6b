-- What each step keeps: a fitting state, fitting sends, and the count of the cells.
use Rattle.std.proofs.Common.{◌≡◌, ◌+◌, ◌-◌, ◌&&◌, ◌==◌, ◌≤◌, ℕ, zero, suc, ℤ, Bool, true, false, List, [], ◌∷◌, take, length, refl, ap, sym, subst, ◌∙◌, slice_get, slice_set, Option, Some, None, IfSome, arith}
use Rattle.std.specs.Str.{bytes_eq}
use Rattle.std.proofs.lemmas.Bool.{eqb-true}
use Rattle.std.proofs.lemmas.List.{length-set}
use Rattle.std.proofs.lemmas.Option.{cond_some}
use Rattle.std.proofs.lemmas.Slice.Eq.{bytes_eq-Decides}
use Rattle.tap_base.specs.Faults.{changed_to, copied_at, lost_at, moved_to}
use Rattle.tap_base.specs.Lists.{Each}
use Rattle.tap_base.specs.Option.{◌>>=◌, is_yes, provided}
use Rattle.tap_exec.specs.declared.running.Outgoing.{Outgoing}
use Rattle.tap_exec.specs.Semantics.{Semantics}
use Rattle.byte_meaning.specs.declared.cell.Cell.{Cell}
use Rattle.byte_meaning.specs.declared.cell.Cell.TheVariants as cell
use Rattle.byte_meaning.specs.Meaning.{Means}
use Rattle.byte_meaning.specs.Messages.{IsFitSend, Receives, most_sends}
use Rattle.byte_meaning.specs.Reading.{meaning}
use Rattle.byte_meaning.proofs.Meant.{meaning_is_meant}
use Rattle.abstract_run.specs.declared.label.Label.{Label}
use Rattle.abstract_run.specs.declared.label.Label.TheVariants as label
use Rattle.abstract_run.specs.declared.state.Channel.{Channel}
use Rattle.abstract_run.specs.declared.state.Falling.{Falling}
use Rattle.abstract_run.specs.declared.state.State.{State}
use Rattle.abstract_run.specs.CellCount.{CountsCells, cells_in, cells_put, cells_received, cells_taken, cells_taken_by}
use Rattle.abstract_run.specs.Channels.{appended, on_flight, rejected_at, taken_back, where_room}
use Rattle.abstract_run.specs.Fits.{CellsFit, FallingFits, Fits, IsFitCell, IsFitChannel}
use Rattle.abstract_run.specs.Kept.{AreFitSends, Keeps, StepsKeep}
use Rattle.abstract_run.specs.Safe.{BodiesKeepRanges}
use Rattle.tap_exec.specs.Execution.{is_empty}
use Rattle.abstract_run.specs.Step.{After, channel_changed, cut_off, fallen, falling_step, is_flooded, is_idle, is_live, is_zero, mark_raised, put_down, rejected, settled_step, silent, step, step_by, stopped, ticked, with_channels}
use Rattle.abstract_run.proofs.Acted.{Acted, LeftFits, acted_by, is_both, left_fits}
use Rattle.abstract_run.proofs.ActKeeps.{acted_fits}
use Rattle.abstract_run.proofs.Counted.{changed_count, sent_count, taken_count}
use Rattle.abstract_run.proofs.Fallen.{Flies, all_taken_back}
use Rattle.abstract_run.proofs.Found.{in_flight_is}
use Rattle.abstract_run.proofs.Mild.{Moved, NewFit, NoneNew, Mild, moved_by, moved_fits}
use Rattle.abstract_run.proofs.Moves.{Counts, Is, addition, addition_count, arrival, arrival_count, copy, copy_count, damage, damage_count, loss, loss_count, rejection, rejection_count, shift, shift_count}
use Rattle.abstract_run.proofs.OnChannel.{Ends, count, mapped_some}
use Rattle.abstract_run.proofs.Ticked.{no_fall, read_by, ticked_fits}

-- ---- steps that send nothing

quiet : (o : Option State) (t : State) (sends : List Outgoing) → silent o ≡ Some (t, sends) → (o ≡ Some t) × (sends ≡ [])
quiet None t sends e = cc
quiet (Some u) t sends e =
    let both : ◌≡◌ {A = After} (u, []) (t, sends) = cc in (ap (λ (a : After). Some a.0) both, sym (ap (λ (a : After). a.1) both))

-- as many cells as there should be, where nothing is sent
abbrev CountsTaken : ℕ → State → State → Type 0
CountsTaken n s t = cells_in t + n ≡ cells_in s + (0 + 0)

counts_none : (n : ℕ) (s t : State) (sends : List Outgoing) → sends ≡ [] → CountsTaken n s t → cells_in t + n ≡ cells_in s + (0 + length sends)
counts_none n s t sends none h = subst (λ (os : List Outgoing). cells_in t + n ≡ cells_in s + (0 + length os)) (sym none) h

moved_count : (m n : ℕ) (s t : State) (q p : ℕ) (f : Channel → Option Channel) → Counts m n f → Moved s q p f t → cells_in t + m ≡ cells_in s + n
moved_count m n s t q p f k x = ap (λ (u : State). count u.channels + m) x.next ∙ changed_count m n q p f k s.channels x.channels x.is

-- a change of one channel, by the label that makes it: it takes out m cells and puts in n
moved_keeps : (semantics : Semantics) (s t : State) (l : Label) (q p m n : ℕ) (IsNew : Cell → Type 0) (f : Channel → Option Channel) (sends : List Outgoing) → Mild IsNew f → NewFit semantics q p IsNew
    → Counts m n f → cells_taken semantics l ≡ m → cells_put l ≡ n → AreFitSends semantics l [] → Fits semantics s → s.falling ≡ None
    → silent (channel_changed f s q p) ≡ Some (t, sends) → Keeps semantics l s sends t
moved_keeps semantics s t l q p m n IsNew f sends mild new k out in_ none fits settled e =
    let both = quiet (channel_changed f s q p) t sends e in
    let x = moved_by s t q p f both.0 in
    record {
      fits = moved_fits semantics s t q p IsNew f mild new fits settled x;
      sent = subst (AreFitSends semantics l) (sym both.1) none;
      cells = subst (λ (os : List Outgoing). cells_in t + cells_taken semantics l ≡ cells_in s + (cells_put l + length os)) (sym both.1)
          (ap (λ a. cells_in t + a) out ∙ moved_count m n s t q p f k x ∙ (let put = in_ in omega (arith, put)));
    }

none_new : (semantics : Semantics) (q p : ℕ) → NewFit semantics q p NoneNew
none_new semantics q p x h = absurd h

-- ---- an action

acted_keeps : (semantics : Semantics) (s t : State) (p a : ℕ) (choices : List ℤ) (sends : List Outgoing) → BodiesKeepRanges semantics → Fits semantics s → Acted semantics s p a choices t sends
    → Keeps semantics (label.Act p a choices) s sends t
acted_keeps semantics s t p a choices sends keep fits x =
    let left = left_fits semantics s p a x.process x.action choices x.done.r keep fits x.is x.stands x.ready x.done.ran in
    record {
      fits = acted_fits semantics s t p a choices sends fits x left;
      sent = (subst (λ (os : List Outgoing). length os ≤ most_sends) (sym x.done.told) left.few, subst (Each (IsFitSend semantics p)) (sym x.done.told) left.fitting);
      cells = counts left;
    } where
      counts : LeftFits semantics s p x.process x.action choices x.done.r → CountsCells semantics (label.Act p a choices) s sends t
      counts left =
          let after = sent_count p x.done.r.sends x.done.taken x.done.channels x.done.sent in
          let before = taken_count s p x.action.guard left.begins.values x.done.taken left.begins.heard x.done.took in
          let all : count x.done.channels + cells_received x.action.guard ≡ count s.channels + (0 + length x.done.r.sends) = omega (arith, after, before) in
          ap (λ n. cells_in t + n) (ap cells_taken_by x.at)
          ∙ ap (λ (u : State). count u.channels + cells_received x.action.guard) x.done.next
          ∙ all
          ∙ ap (λ (os : List Outgoing). count s.channels + (0 + length os)) (sym x.done.told)

-- ---- a state that stays

stays : (semantics : Semantics) (s t : State) (l : Label) (b : Bool) (sends : List Outgoing) → cells_taken semantics l ≡ 0 → cells_put l ≡ 0 → AreFitSends semantics l [] → Fits semantics s
    → silent (provided b s) ≡ Some (t, sends) → Keeps semantics l s sends t
stays semantics s t l b sends out in_ none fits e =
    let both = quiet (provided b s) t sends e in
    let same = (cond_some b s t both.0).1 in
    record {
      fits = subst (Fits semantics) same fits;
      sent = subst (AreFitSends semantics l) (sym both.1) none;
      cells = subst (λ (os : List Outgoing). cells_in t + cells_taken semantics l ≡ cells_in s + (cells_put l + length os)) (sym both.1)
          (ap (λ (u : State). cells_in u + cells_taken semantics l) (sym same) ∙ (let taken = out in let put = in_ in omega (arith, taken, put)));
    }

-- ---- cuts and stops

abbrev with_cut : State → ℕ → Option ℕ → State
with_cut s p cut = record s { cuts = slice_set s.cuts p cut }

cut_fits : (semantics : Semantics) (s : State) (p : ℕ) (cut : Option ℕ) → Fits semantics s → s.falling ≡ None → Fits semantics (with_cut s p cut)
cut_fits semantics s p cut fits settled = record {
  entries = record {
    inputs = fits.entries.inputs;
    stores = fits.entries.stores;
    timers = fits.entries.timers;
    times = fits.entries.times;
    down = fits.entries.down;
    cuts = length-set s.cuts p cut ∙ fits.entries.cuts;
    senders = fits.entries.senders;
    receivers = fits.entries.receivers;
  };
  values = record { inputs = fits.values.inputs; stores = fits.values.stores };
  channels = fits.channels;
  falling = no_fall (with_cut s p cut) s.falling settled;
  times = record { times = fits.times.times; timers = fits.times.timers };
  cells = fits.cells;
}

cut_keeps : (semantics : Semantics) (s t : State) (p n : ℕ) (sends : List Outgoing) → Fits semantics s → s.falling ≡ None → silent (cut_off s p n) ≡ Some (t, sends) → Keeps semantics (label.Cut p n) s sends t
cut_keeps semantics s t p n sends fits settled e =
    let both = quiet (cut_off s p n) t sends e in
    let x = mapped_some (λ (old : Option ℕ). with_cut s p (Some n)) (slice_get s.cuts p) t both.0 in
    record {
      fits = subst (Fits semantics) (sym x.2) (cut_fits semantics s p (Some n) fits settled);
      sent = both.1;
      cells = counts_none 0 s t sends both.1 (ap (λ u. cells_in u + 0) x.2);
    }

-- p is down, and its channels are these
abbrev down_with : State → ℕ → List Channel → State
down_with s p channels = record (put_down s p) { channels = channels }

down_fits : (semantics : Semantics) (s : State) (p : ℕ) (channels : List Channel) → Fits semantics s → Ends channels s.channels → Each IsFitChannel channels → CellsFit semantics channels
    → Fits semantics (down_with s p channels)
down_fits semantics s p channels fits ends fit cells = record {
  entries = record {
    inputs = fits.entries.inputs;
    stores = fits.entries.stores;
    timers = fits.entries.timers;
    times = fits.entries.times;
    down = length-set s.down p true ∙ fits.entries.down;
    cuts = length-set s.cuts p None ∙ fits.entries.cuts;
    senders = ends.0 ∙ fits.entries.senders;
    receivers = ends.1 ∙ fits.entries.receivers;
  };
  values = record { inputs = fits.values.inputs; stores = fits.values.stores };
  channels = fit;
  falling = tt;
  times = record { times = fits.times.times; timers = fits.times.timers };
  cells = cells;
}

no_receivers : (rs : List ℕ) → is_empty rs ≡ true → rs ≡ []
no_receivers [] h = refl
no_receivers (r ∷ rs) h = cc

stop_keeps : (semantics : Semantics) (s t : State) (p : ℕ) (rs : List ℕ) (sends : List Outgoing) → Fits semantics s → silent (stopped s p rs) ≡ Some (t, sends)
    → Keeps semantics (label.Stop p rs) s sends t
stop_keeps semantics s t p rs sends fits e =
    let both = quiet (stopped s p rs) t sends e in
    let x = cond_some (is_live s p && is_zero (slice_get s.cuts p) && is_empty rs) (put_down s p) t both.0 in
    let none = no_receivers rs (is_both (is_live s p && is_zero (slice_get s.cuts p)) (is_empty rs) x.0).1 in
    record {
      fits = subst (Fits semantics) x.1 (down_fits semantics s p s.channels fits (refl, refl) fits.channels fits.cells);
      sent = both.1;
      cells = subst (λ (os : List ℕ). cells_in t + length os ≡ cells_in s + (0 + length sends)) (sym none) (counts_none 0 s t sends both.1 (ap (λ u. cells_in u + 0) (sym x.1)));
    }

all_but_last : (P : Cell → Type 0) (k : ℕ) (xs : List Cell) → Each P xs → Each P (take k xs)
all_but_last P zero xs h = tt
all_but_last P (suc k) [] h = tt
all_but_last P (suc k) (x ∷ xs) h = (h.0, all_but_last P k xs h.1)

-- the cut that fell, and what is left of the channels
pub record Fallen (s : State) (f : Falling) (p : ℕ) (rs : List ℕ) (t : State) : Type 0 where
  pub process : f.process ≡ p
  pub receivers : f.receivers ≡ rs
  pub channels : List Channel
  pub back : taken_back p rs s.channels ≡ Some channels
  pub next : t ≡ record (put_down s p) { channels = channels }

pub fallen_by : (s t : State) (f : Falling) (p : ℕ) (rs : List ℕ) → fallen s f p rs ≡ Some t → Fallen s f p rs t
fallen_by s t f p rs e = by_test (f.process == p && bytes_eq f.receivers rs) refl e where
  by_test : (b : Bool) → (f.process == p && bytes_eq f.receivers rs) ≡ b → (provided b s >>= λ same. with_channels (put_down same p) (taken_back p rs same.channels)) ≡ Some t → Fallen s f p rs t
  by_test false is h = cc
  by_test true is h =
      let tests = is_both (f.process == p) (bytes_eq f.receivers rs) is in
      let x = mapped_some (λ channels. down_with s p channels) (taken_back p rs s.channels) t h in
      record { process = eqb-true f.process p tests.0; receivers = (bytes_eq-Decides f.receivers rs).0 tests.1; channels = x.0; back = x.1; next = x.2 }

-- what flies from the process whose link failed
pub flies_from : (s : State) (f : Falling) (p : ℕ) (rs : List ℕ) → FallingFits s f → f.process ≡ p → f.receivers ≡ rs → Flies p rs s.channels
flies_from s f p rs h process receivers =
    subst (λ q. Flies q rs s.channels) process
    (subst (λ ls. Flies f.process ls s.channels) receivers (λ q. let few = h.in_flight q in omega (arith, few, in_flight_is f.process q s.channels)))

pub some_fits : (s : State) (f : Falling) (o : Option Falling) → o ≡ Some f → IfSome o (FallingFits s) → FallingFits s f
some_fits s f None e h = cc
some_fits s f (Some g) e h = let same : g ≡ f = cc in subst (FallingFits s) same h

fall_keeps : (semantics : Semantics) (s t : State) (f : Falling) (p : ℕ) (rs : List ℕ) (sends : List Outgoing) → Fits semantics s → s.falling ≡ Some f → silent (fallen s f p rs) ≡ Some (t, sends)
    → Keeps semantics (label.Stop p rs) s sends t
fall_keeps semantics s t f p rs sends fits falls e =
    let both = quiet (fallen s f p rs) t sends e in
    let x = fallen_by s t f p rs both.0 in
    let left = all_taken_back (λ c. Each (IsFitCell semantics c.from c.to) c.cells) (λ c h. all_but_last (IsFitCell semantics c.from c.to) (length c.cells - 1) c.cells h) p rs s.channels x.channels fits.channels
    fits.cells (flies_from s f p rs (some_fits s f s.falling falls fits.falling) x.process x.receivers) x.back in
    let less = left.counted in
    record {
      fits = subst (Fits semantics) (sym x.next)
          (down_fits semantics s p x.channels fits left.ends left.fit left.each);
      sent = both.1;
      cells = subst (λ (os : List Outgoing). cells_in t + length rs ≡ cells_in s + (0 + length os)) (sym both.1)
          (ap (λ (u : State). cells_in u + length rs) x.next ∙ (let all : count x.channels + length rs ≡ count s.channels + (0 + 0) = omega (arith, less) in all));
    }

-- ---- each label

-- bytes mean what fits
meant_fits : (semantics : Semantics) (q p : ℕ) (bytes : List ℕ) → IsFitCell semantics q p (meaning semantics q p bytes)
meant_fits semantics q p bytes = by_cell (meaning semantics q p bytes) (meaning_is_meant semantics q p bytes) where
  by_cell : (c : Cell) → Means semantics.messages (Receives semantics) q p bytes c → IsFitCell semantics q p c
  by_cell cell.Error h = tt
  by_cell (cell.Msg m values) h = record { received = h.0; fitting = record { fields = h.1.fields; declared = h.1.declared; fitting = h.1.fitting } }

meant_new : (semantics : Semantics) (q p : ℕ) (bytes : List ℕ) → NewFit semantics q p (Is (meaning semantics q p bytes))
meant_new semantics q p bytes x h = subst (IsFitCell semantics q p) (sym h) (meant_fits semantics q p bytes)

rejected_by : (s t : State) (q p i : ℕ) (sends : List Outgoing) → silent (rejected s q p i) ≡ Some (t, sends) → silent (channel_changed (rejected_at i) s q p) ≡ Some (t, sends)
rejected_by s t q p i sends e = by_test (is_live s p) e where
  by_test : (b : Bool) → silent (provided b s >>= λ live. channel_changed (rejected_at i) live q p) ≡ Some (t, sends) → silent (channel_changed (rejected_at i) s q p) ≡ Some (t, sends)
  by_test true h = h
  by_test false h = cc

settled_keeps : (semantics : Semantics) (s t : State) (l : Label) (sends : List Outgoing) → BodiesKeepRanges semantics → Fits semantics s → s.falling ≡ None
    → settled_step semantics s l ≡ Some (t, sends) → Keeps semantics l s sends t
settled_keeps semantics s t (label.Tick p c) sends keep fits settled e =
    let both = quiet (ticked s p c) t sends e in
    let x = read_by s t p c both.0 in
    record { fits = ticked_fits semantics s t p c fits settled x; sent = both.1; cells = counts_none 0 s t sends both.1 (ap (λ u. cells_in u + 0) (sym x.next)) }
settled_keeps semantics s t (label.Reject q p i) sends keep fits settled e =
    moved_keeps semantics s t (label.Reject q p i) q p 1 0 NoneNew (rejected_at i) sends (rejection i) (none_new semantics q p) (rejection_count i) refl refl refl fits settled (rejected_by s t q p i sends e)
settled_keeps semantics s t (label.Act p a choices) sends keep fits settled e = acted_keeps semantics s t p a choices sends keep fits (acted_by semantics s t p a choices sends e)
settled_keeps semantics s t (label.Idle p) sends keep fits settled e = stays semantics s t (label.Idle p) (is_idle semantics s p) sends refl refl refl fits e
settled_keeps semantics s t (label.Flood p) sends keep fits settled e = stays semantics s t (label.Flood p) (is_flooded semantics s p) sends refl refl refl fits e
settled_keeps semantics s t (label.Arrive q p) sends keep fits settled e =
    moved_keeps semantics s t (label.Arrive q p) q p 0 0 NoneNew mark_raised sends arrival (none_new semantics q p) arrival_count refl refl refl fits settled e
settled_keeps semantics s t (label.Lose q p i) sends keep fits settled e =
    moved_keeps semantics s t (label.Lose q p i) q p 1 0 NoneNew (on_flight (lost_at i)) sends (loss i) (none_new semantics q p) (loss_count i) refl refl refl fits settled e
settled_keeps semantics s t (label.Copy q p i) sends keep fits settled e =
    moved_keeps semantics s t (label.Copy q p i) q p 0 1 NoneNew (where_room (on_flight (copied_at i))) sends (copy i) (none_new semantics q p) (copy_count i) refl refl refl fits settled e
settled_keeps semantics s t (label.Move q p i j) sends keep fits settled e =
    moved_keeps semantics s t (label.Move q p i j) q p 0 0 NoneNew (on_flight (moved_to i j)) sends (shift i j) (none_new semantics q p) (shift_count i j) refl refl refl fits settled e
settled_keeps semantics s t (label.Damage q p i bytes) sends keep fits settled e =
    let x = meaning semantics q p bytes in
    moved_keeps semantics s t (label.Damage q p i bytes) q p 0 0 (Is x) (on_flight (changed_to i x)) sends (damage i x) (meant_new semantics q p bytes) (damage_count i x) refl refl refl fits settled e
settled_keeps semantics s t (label.Forge q p bytes) sends keep fits settled e =
    let x = meaning semantics q p bytes in
    moved_keeps semantics s t (label.Forge q p bytes) q p 0 1 (Is x) (appended x) sends (addition x) (meant_new semantics q p bytes) (addition_count x) refl refl refl fits settled e
settled_keeps semantics s t (label.Cut p n) sends keep fits settled e = cut_keeps semantics s t p n sends fits settled e
settled_keeps semantics s t (label.Stop p rs) sends keep fits settled e = stop_keeps semantics s t p rs sends fits e
settled_keeps semantics s t (label.Down p) sends keep fits settled e = stays semantics s t (label.Down p) (is_yes (slice_get s.down p)) sends refl refl refl fits e
settled_keeps semantics s t label.Void sends keep fits settled e = stays semantics s t label.Void true sends refl refl refl fits e

falling_keeps : (semantics : Semantics) (s t : State) (f : Falling) (l : Label) (sends : List Outgoing) → Fits semantics s → s.falling ≡ Some f → falling_step s f l ≡ Some (t, sends) → Keeps semantics l s sends t
falling_keeps semantics s t f (label.Stop p rs) sends fits falls e = fall_keeps semantics s t f p rs sends fits falls e
falling_keeps semantics s t f _ sends fits falls e = cc

-- which row a step is of
pub data Rows (semantics : Semantics) (s : State) (l : Label) (after : After) : Type 0 where
  settled : s.falling ≡ None → settled_step semantics s l ≡ Some after → Rows semantics s l after
  falls : (f : Falling) → s.falling ≡ Some f → falling_step s f l ≡ Some after → Rows semantics s l after

pub row_of : (semantics : Semantics) (s : State) (l : Label) (after : After) → step semantics s l ≡ Some after → Rows semantics s l after
row_of semantics s l after e = by_falling s.falling refl e where
  by_falling : (o : Option Falling) → s.falling ≡ o → step_by semantics s l o ≡ Some after → Rows semantics s l after
  by_falling None is h = settled is h
  by_falling (Some f) is h = falls f is h

pub steps_keep : StepsKeep
steps_keep semantics s t l sends keep fits e = by_row (row_of semantics s l (t, sends) e) where
  by_row : Rows semantics s l (t, sends) → Keeps semantics l s sends t
  by_row (settled is h) = settled_keeps semantics s t l sends keep fits is h
  by_row (falls f is h) = falling_keeps semantics s t f l sends fits is h
