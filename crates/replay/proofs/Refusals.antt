-- Lines that can't come next.
use Rattle.std.proofs.Common.{◌≡◌, ◌≢◌, Option, ◌≤◌, inl, inr, ℕ, List, [], ◌∷◌, map, length, refl, sym, subst, ◌∙◌, arith, Some, None}
use Rattle.std.proofs.lemmas.List.{length-map}
use Rattle.tap_base.specs.Lists.{Each}
use Rattle.abstract_run.specs.Safe.{BeginsInRange, most_vars}
use Rattle.abstract_run.specs.Channels.{appended, on_channel, on_flight, place_of, where_room}
use Rattle.abstract_run.specs.Fits.{Fits}
use Rattle.abstract_run.specs.Step.{After, channel_changed, mark_raised, silent, step, step_by}
use Rattle.abstract_run.specs.declared.state.Channel.{Channel}
use Rattle.abstract_run.specs.declared.state.Falling.{Falling}
use Rattle.abstract_run.specs.declared.state.State.{State}
use Rattle.abstract_run.specs.inner.Among.{AreAmong}
use Rattle.abstract_run.proofs.Idle.{of_other}
use Rattle.byte_meaning.specs.Reading.{meaning}
use Rattle.tap_base.specs.Faults.{changed_to, copied_at, lost_at, moved_to}
use Rattle.run_text.proofs.Options.{bound, mapped}
use Rattle.abstract_run.specs.declared.label.Label.{Label}
use Rattle.abstract_run.specs.declared.label.Label.TheVariants as label
use Rattle.tap_exec.specs.Semantics.{ProcessSemantics, Semantics}
use Rattle.run_text.specs.Names.{AreFewNames, AreNames}
use Rattle.run_text.specs.Sized.{IsSized}
use Rattle.run_text.specs.TraceText.{label_line, names_in, var_name, vars_in}
use Rattle.run_text.proofs.LineLabels.{one_line}
use Rattle.trace_entries.specs.Entries.{HasLabelLine}
use Rattle.trace_entries.specs.LineNames.{AreLineNames, var_names}
use Rattle.trace_entries.specs.declared.entry.Entry.TheVariants as entry
use Rattle.replay.specs.Grammar.{IsInGrammar, IsInNoGrammar, TellsNames, names_told}
use Rattle.replay.specs.Stages.{Goes, IsReady, Stage}
use Rattle.replay.specs.inner.Passing.{IsNotDue, IsNotLast}
use Rattle.replay.proofs.OneWay.{sized_names}

-- ---- names

few_vars : (ps : List ProcessSemantics) → Each (λ p. length p.vars ≤ most_vars) ps → Each (λ own. AreNames (var_names own)) (map (λ p. map var_name p.vars) ps)
    → Each (λ own. AreFewNames (var_names own)) (map (λ p. map var_name p.vars) ps)
few_vars [] h k = tt
few_vars (p ∷ ps) h k =
    let few : length p.vars ≤ 4096 = h.0 in
    let counted : length (var_names (map var_name p.vars)) ≡ length p.vars = length-map (map var_name p.vars) (λ v. v.text) ∙ length-map p.vars var_name in
    (record { named = k.0; few = omega (arith, few, counted) }, few_vars ps h.1 k.1)

pub line_names : (semantics : Semantics) → BeginsInRange semantics → TellsNames semantics → AreLineNames (names_told semantics)
line_names semantics begins tells =
    let few : length semantics.processes ≤ 64 = begins.few in
    let counted : length (names_in semantics) ≡ length semantics.processes = length-map semantics.processes (λ p. p.name) in
    let same : length (vars_in semantics) ≡ length semantics.processes = length-map semantics.processes (λ p. map var_name p.vars) in
    record {
      processes = record { named = tells.processes; few = omega (arith, few, counted) };
      both = same ∙ sym counted;
      vars = few_vars semantics.processes begins.few_vars tells.vars;
    }

-- ---- labels that have a line

pub sized_of : (n : ℕ) (l : Label) → HasLabelLine n l → IsSized n l
sized_of n (label.Tick p c) h = h
sized_of n (label.Reject q p i) h = h
sized_of n (label.Act p a choices) h = h
sized_of n (label.Idle p) h = h
sized_of n (label.Flood p) h = h
sized_of n (label.Arrive q p) h = (h.0, h.1)
sized_of n (label.Lose q p i) h = (h.0.0, h.0.1, h.1)
sized_of n (label.Copy q p i) h = (h.0.0, h.0.1, h.1)
sized_of n (label.Move q p i j) h = (h.0.0, h.0.1, h.1, h.2)
sized_of n (label.Damage q p i bytes) h = (h.0.0, h.0.1, h.1, h.2)
sized_of n (label.Forge q p bytes) h = (h.0.0, h.0.1, h.1)
sized_of n (label.Cut p k) h = h
sized_of n (label.Stop p receivers) h = h
sized_of n (label.Down p) h = h
sized_of n label.Void h = h

pub sized_here : (semantics : Semantics) (l : Label) → HasLabelLine (length (names_in semantics)) l → IsSized (length semantics.processes) l
sized_here semantics l h = subst (λ n. IsSized n l) (length-map semantics.processes (λ p. p.name)) (sized_of (length (names_in semantics)) l h)

pub label_in_grammar : (semantics : Semantics) (l : Label) → HasLabelLine (length (names_in semantics)) l → IsInGrammar semantics (label_line (names_in semantics) l)
label_in_grammar semantics l h = (entry.Label l, tt, (h, refl))

-- ---- lines that can't come next

pub not_ready : (semantics : Semantics) (old : Stage) (line : List ℕ) → (IsReady old → ⊥) → IsNotDue old line → (next : Stage) → Goes semantics old line next → ⊥
not_ready semantics old line n d next (inl h) = d next.due h.due
not_ready semantics old line n d next (inr (inl t)) = n t.ready
not_ready semantics old line n d next (inr (inr b)) = n b.ready

pub label_impossible : (semantics : Semantics) (old : Stage) (l : Label) → AreNames (names_in semantics) → HasLabelLine (length (names_in semantics)) l → step semantics old.state l ≡ None
    → IsNotDue old (label_line (names_in semantics) l) → IsNotLast semantics old (label_line (names_in semantics) l) → (next : Stage) → Goes semantics old (label_line (names_in semantics) l) next → ⊥
label_impossible semantics old l named h none d n next (inl p) = d next.due p.due
label_impossible semantics old l named h none d n next (inr (inl t)) =
    let same = one_line (names_in semantics) l t.label named (sized_of (length (names_in semantics)) l h) (sized_names semantics t.label t.sized) t.spelled in
    let steps = t.steps in
    cc
label_impossible semantics old l named h none d n next (inr (inr b)) = n next b

-- ---- possible labels have a line

changed_other : (n q p : ℕ) (change : Channel → Option Channel) (s : State) (after : After) → AreAmong n s.channels → silent (channel_changed change s q p) ≡ Some after → q ≢ p
changed_other n q p change s after among e =
    let a = mapped (channel_changed change s q p) _ after e in
    let b = mapped (on_channel q p change s.channels) _ a.x a.from in
    let c = bound (place_of q p s.channels) _ b.x b.from in
    of_other n q p c.x s.channels among c.from

has_line : (semantics : Semantics) (s : State) (n : ℕ) (l : Label) (f : Option Falling) (after : After) → AreAmong n s.channels → step_by semantics s l f ≡ Some after → IsSized n l → HasLabelLine n l
has_line semantics s n (label.Tick p c) f after among e h = h
has_line semantics s n (label.Reject q p i) f after among e h = h
has_line semantics s n (label.Act p a choices) f after among e h = h
has_line semantics s n (label.Idle p) f after among e h = h
has_line semantics s n (label.Flood p) f after among e h = h
has_line semantics s n (label.Cut p k) f after among e h = h
has_line semantics s n (label.Stop p receivers) f after among e h = h
has_line semantics s n (label.Down p) f after among e h = h
has_line semantics s n label.Void f after among e h = h
has_line semantics s n (label.Arrive q p) (Some f) after among e h = cc
has_line semantics s n (label.Arrive q p) None after among e h = (h.0, h.1, changed_other n q p mark_raised s after among e)
has_line semantics s n (label.Lose q p i) (Some f) after among e h = cc
has_line semantics s n (label.Lose q p i) None after among e h = ((h.0, h.1, changed_other n q p (on_flight (lost_at i)) s after among e), h.2)
has_line semantics s n (label.Copy q p i) (Some f) after among e h = cc
has_line semantics s n (label.Copy q p i) None after among e h = ((h.0, h.1, changed_other n q p (where_room (on_flight (copied_at i))) s after among e), h.2)
has_line semantics s n (label.Move q p i j) (Some f) after among e h = cc
has_line semantics s n (label.Move q p i j) None after among e h = ((h.0, h.1, changed_other n q p (on_flight (moved_to i j)) s after among e), h.2, h.3)
has_line semantics s n (label.Damage q p i bytes) (Some f) after among e h = cc
has_line semantics s n (label.Damage q p i bytes) None after among e h = ((h.0, h.1, changed_other n q p (on_flight (changed_to i (meaning semantics q p bytes))) s after among e), h.2, h.3)
has_line semantics s n (label.Forge q p bytes) (Some f) after among e h = cc
has_line semantics s n (label.Forge q p bytes) None after among e h = ((h.0, h.1, changed_other n q p (appended (meaning semantics q p bytes)) s after among e), h.2)

-- a line in no grammar can't come next
pub bad_impossible : (semantics : Semantics) (old : Stage) (line : List ℕ) → BeginsInRange semantics → Fits semantics old.state → IsInNoGrammar semantics line → IsNotDue old line → IsNotLast semantics old line
    → (next : Stage) → Goes semantics old line next → ⊥
bad_impossible semantics old line begins fits none d n next (inl p) = d next.due p.due
bad_impossible semantics old line begins fits none d n next (inr (inl t)) =
    let among : AreAmong (length semantics.processes) old.state.channels = record { few = begins.few; senders = fits.entries.senders; receivers = fits.entries.receivers } in
    let has = has_line semantics old.state (length semantics.processes) t.label old.state.falling (next.state, t.sends) among t.steps t.sized in
    none (entry.Label t.label) tt (subst (λ k. HasLabelLine k t.label) (sym (length-map semantics.processes (λ p. p.name))) has, t.spelled)
bad_impossible semantics old line begins fits none d n next (inr (inr b)) = n next b
