-- A change of one channel keeps the state fit, where the cells that it puts in fit.
use Rattle.std.proofs.Common.{◌≡◌, ℕ, List, sym, subst, ◌∙◌, Option, Some, None, true}
use Rattle.tap_base.specs.Lists.{Each}
use Rattle.byte_meaning.specs.declared.cell.Cell.{Cell}
use Rattle.abstract_run.specs.declared.state.Channel.{Channel}
use Rattle.abstract_run.specs.declared.state.State.{State}
use Rattle.abstract_run.specs.Channels.{joins, on_channel}
use Rattle.abstract_run.specs.Fits.{Fits, IsFitCell, IsFitChannel}
use Rattle.tap_exec.specs.Semantics.{Semantics}
use Rattle.abstract_run.specs.Step.{channel_changed}
use Rattle.abstract_run.proofs.OnChannel.{changed, changed_each, changed_map, joined, mapped_some, on_channel_is}
use Rattle.abstract_run.proofs.Ticked.{no_fall}

-- no cell is put in
abbrev pub NoneNew : Cell → Type 0
NoneNew x = ⊥

-- what a change of a channel keeps, where each cell that it puts in is a new one of these
pub record Mild (IsNew : Cell → Type 0) (f : Channel → Option Channel) : Type 1 where
  pub from : (c d : Channel) → f c ≡ Some d → d.from ≡ c.from
  pub to : (c d : Channel) → f c ≡ Some d → d.to ≡ c.to
  pub fits : (c d : Channel) → IsFitChannel c → f c ≡ Some d → IsFitChannel d
  pub each : (P : Cell → Type 0) → ((x : Cell) → IsNew x → P x) → (c d : Channel) → Each P c.cells → f c ≡ Some d → Each P d.cells

-- the channels after the change
pub record Moved (s : State) (q p : ℕ) (f : Channel → Option Channel) (t : State) : Type 0 where
  pub channels : List Channel
  pub is : changed q p f s.channels ≡ Some channels
  pub next : t ≡ record s { channels = channels }

pub moved_by : (s t : State) (q p : ℕ) (f : Channel → Option Channel) → channel_changed f s q p ≡ Some t → Moved s q p f t
moved_by s t q p f e =
    let x = mapped_some (λ channels. let u : State = record s { channels = channels } in u) (on_channel q p f s.channels) t e in
    record { channels = x.0; is = sym (on_channel_is q p f s.channels) ∙ x.1; next = x.2 }

-- what is put in from q to p fits there
abbrev pub NewFit : Semantics → ℕ → ℕ → (Cell → Type 0) → Type 0
NewFit semantics q p IsNew = (x : Cell) → IsNew x → IsFitCell semantics q p x

cells_stay : (semantics : Semantics) (q p : ℕ) (IsNew : Cell → Type 0) (f : Channel → Option Channel) → Mild IsNew f → NewFit semantics q p IsNew → (c d : Channel)
    → Each (IsFitCell semantics c.from c.to) c.cells → joins q p c ≡ true → f c ≡ Some d → Each (IsFitCell semantics d.from d.to) d.cells
cells_stay semantics q p IsNew f mild new c d h at e =
    let ends = joined q p c at in
    let fresh : (x : Cell) → IsNew x → IsFitCell semantics c.from c.to x = λ x k.
    subst (λ a. IsFitCell semantics a c.to x) (sym ends.0) (subst (λ b. IsFitCell semantics q b x) (sym ends.1) (new x k)) in
    let here = mild.each (IsFitCell semantics c.from c.to) fresh c d h e in
    subst (λ b. Each (IsFitCell semantics d.from b) d.cells) (sym (mild.to c d e)) (subst (λ a. Each (IsFitCell semantics a c.to) d.cells) (sym (mild.from c d e)) here)

channels_fit : (semantics : Semantics) (s : State) (q p : ℕ) (IsNew : Cell → Type 0) (f : Channel → Option Channel) (channels : List Channel) → Mild IsNew f → NewFit semantics q p IsNew
    → Fits semantics s → s.falling ≡ None → changed q p f s.channels ≡ Some channels → Fits semantics (record s { channels = channels })
channels_fit semantics s q p IsNew f channels mild new fits settled is = record {
  entries = record {
    inputs = fits.entries.inputs;
    stores = fits.entries.stores;
    timers = fits.entries.timers;
    times = fits.entries.times;
    down = fits.entries.down;
    cuts = fits.entries.cuts;
    senders = changed_map (λ c. c.from) q p f mild.from s.channels channels is ∙ fits.entries.senders;
    receivers = changed_map (λ c. c.to) q p f mild.to s.channels channels is ∙ fits.entries.receivers;
  };
  values = record { inputs = fits.values.inputs; stores = fits.values.stores };
  channels = changed_each IsFitChannel q p f (λ c d h j e. mild.fits c d h e) s.channels channels fits.channels is;
  falling = no_fall (record s { channels = channels }) s.falling settled;
  times = record { times = fits.times.times; timers = fits.times.timers };
  cells = changed_each (λ c. Each (IsFitCell semantics c.from c.to) c.cells) q p f (cells_stay semantics q p IsNew f mild new) s.channels channels fits.cells is;
}

pub moved_fits : (semantics : Semantics) (s t : State) (q p : ℕ) (IsNew : Cell → Type 0) (f : Channel → Option Channel) → Mild IsNew f → NewFit semantics q p IsNew → Fits semantics s
    → s.falling ≡ None → Moved s q p f t → Fits semantics t
moved_fits semantics s t q p IsNew f mild new fits settled x = subst (Fits semantics) (sym x.next) (channels_fit semantics s q p IsNew f x.channels mild new fits settled x.is)
