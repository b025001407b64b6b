-- What an event did is recorded as it happened: in a segment at most one label is an action, and no other label sends.
use Rattle.std.proofs.Common.{◌≡◌, ◌⊎◌, inl, inr, ◌∙◌, ℕ, zero, suc, Bool, true, false, if◌then◌else◌, List, [], ◌∷◌, ◌++◌, map, take, Option, Some, None, refl, ap, sym, subst, append-nil}
use Rattle.std.specs.Prelude.{flat_map}
use Rattle.std.specs.Option.{option_map}
use Rattle.tap_base.specs.Lists.{Each}
use Rattle.tap_base.specs.Option.{each}
use Rattle.tap_exec.specs.declared.running.Outgoing.{Outgoing}
use Rattle.tap_exec.specs.Semantics.{Semantics}
use Rattle.abstract_run.specs.declared.label.Event.{Event}
use Rattle.abstract_run.specs.declared.label.Event.TheVariants as event
use Rattle.abstract_run.specs.declared.label.Label.{Label}
use Rattle.abstract_run.specs.declared.label.Label.TheVariants as label
use Rattle.abstract_run.specs.declared.state.Falling.{Falling}
use Rattle.abstract_run.specs.declared.state.State.{State}
use Rattle.abstract_run.specs.Answers.{EndsTurn, IsCutTurn, IsLiveTurn, IsRejectOf, IsSegment, cut_off, down, fell, flood, idle, live, ran}
use Rattle.abstract_run.specs.Step.{After, silent, step, step_by}
use Rattle.run_text.specs.TraceText.{Datagram, datagram, lines_text, lines_with, names_in, went_out, with_sents}
use Rattle.run_text.proofs.Options.{bound, mapped, some_same, unwrapped}
use Rattle.world_run.specs.declared.course.Course.{Course}
use Rattle.world_run.specs.declared.deeds.Deeds.{Deeds}
use Rattle.world_run.specs.Served.{Served, TookPlace, no_deeds}
use Rattle.world_run.specs.inner.Writing.{Wrote, beside, is_act, labels_text}
use Rattle.world_run.proofs.Leaves.{IsNoAct}

-- ---- what sends

silent_sends : (o : Option State) (t : State) (sends : List Outgoing) → silent o ≡ Some (t, sends) → sends ≡ []
silent_sends None t sends e = cc
silent_sends (Some u) t sends e = let both : ◌≡◌ {A = After} (u, []) (t, sends) = cc in sym (ap (λ (a : After). a.1) both)

-- a label that is no action sends nothing
quiet_row : (m : Semantics) (s t : State) (l : Label) (sends : List Outgoing) (o : Option Falling) → IsNoAct l → step_by m s l o ≡ Some (t, sends) → sends ≡ []
quiet_row m s t (label.Act p a choices) sends o other e = absurd other
quiet_row m s t (label.Stop p receivers) sends (Some f) other e = silent_sends _ t sends e
quiet_row m s t _ sends (Some f) other e = cc
quiet_row m s t label.Void sends None other e = silent_sends (Some s) t sends e
quiet_row m s t _ sends None other e = silent_sends _ t sends e

none_taken : {A : Type 0} (n : ℕ) → ◌≡◌ {A = List A} (take n []) []
none_taken zero = refl
none_taken (suc n) = refl

no_act : (l : Label) → IsNoAct l → is_act l ≡ false
no_act (label.Act p a choices) other = absurd other
no_act _ other = refl

nothing_out : (m : Semantics) (s : State) (l : Label) (after : After) (out : List Datagram) → IsNoAct l → step m s l ≡ Some after → each (datagram m) (went_out after) ≡ Some out → out ≡ []
nothing_out m s l (t, sends) out other goes told =
    let none = quiet_row m s t l sends s.falling other goes in
    let taken : went_out (t, sends) ≡ [] = ap (λ os. went_out (t, os)) none ∙ none_taken _ in
    unwrapped [] out (sym (ap (each (datagram m)) taken) ∙ told)

-- ---- at most one action

abbrev Few : List Label → Type 0
Few [] = Unit {0}
Few (l ∷ ls) = ((is_act l ≡ true) × Each IsNoAct ls) ⊎ (IsNoAct l × Few ls)

abbrev sents : List (Label × List Datagram) → List Datagram
sents pairs = flat_map (λ (x : Label × List Datagram). x.1) pairs

-- labels without an action, with what went out
none_went_out : (m : Semantics) (s : State) (labels : List Label) (pairs : List (Label × List Datagram)) (ds : List Datagram) → Each IsNoAct labels → with_sents m s labels ≡ Some pairs
    → (pairs ≡ map (beside ds) labels) × (sents pairs ≡ [])
none_went_out m s [] pairs ds few told = let none = unwrapped [] pairs told in (none, ap sents none)
none_went_out m s (l ∷ ls) pairs ds few told =
    let after = bound (step m s l) _ pairs told in
    let out = bound (each (datagram m) (went_out after.x)) _ pairs after.then_ in
    let more = bound (with_sents m after.x.0 ls) (λ ps. Some ((l, out.x) ∷ ps)) pairs out.then_ in
    let rest = none_went_out m after.x.0 ls more.x ds few.1 more.from in
    let nothing = nothing_out m s l after.x out.x few.0 after.from out.from in
    let other = no_act l few.0 in
    let here : pairs ≡ (l, []) ∷ more.x = unwrapped _ _ more.then_ ∙ ap (λ (x : List Datagram). (l, x) ∷ more.x) {x = out.x} nothing in
    (here ∙ rw other (ap (λ (ps : List (Label × List Datagram)). (l, []) ∷ ps) {x = more.x} rest.0), ap sents here ∙ rest.1)

-- labels of which at most one is an action: what went out did so with that one
few_went_out : (m : Semantics) (s : State) (labels : List Label) (pairs : List (Label × List Datagram)) → Few labels → with_sents m s labels ≡ Some pairs → pairs ≡ map (beside (sents pairs)) labels
few_went_out m s [] pairs few told = unwrapped [] pairs told
few_went_out m s (l ∷ ls) pairs (inl few) told =
    let after = bound (step m s l) _ pairs told in
    let out = bound (each (datagram m) (went_out after.x)) _ pairs after.then_ in
    let more = bound (with_sents m after.x.0 ls) (λ ps. Some ((l, out.x) ∷ ps)) pairs out.then_ in
    let rest = none_went_out m after.x.0 ls more.x (sents pairs) few.1 more.from in
    let here : pairs ≡ (l, out.x) ∷ more.x = unwrapped _ _ more.then_ in
    let all : sents pairs ≡ out.x = ap sents here ∙ ap (λ z. out.x ++ z) rest.1 ∙ append-nil out.x in
    let act = few.0 in
    here ∙ ap (λ (x : List Datagram). (l, x) ∷ more.x) {x = out.x} (sym all) ∙ rw act (ap (λ (ps : List (Label × List Datagram)). (l, sents pairs) ∷ ps) {x = more.x} rest.0)
few_went_out m s (l ∷ ls) pairs (inr few) told =
    let after = bound (step m s l) _ pairs told in
    let out = bound (each (datagram m) (went_out after.x)) _ pairs after.then_ in
    let more = bound (with_sents m after.x.0 ls) (λ ps. Some ((l, out.x) ∷ ps)) pairs out.then_ in
    let nothing = nothing_out m s l after.x out.x few.0 after.from out.from in
    let here : pairs ≡ (l, []) ∷ more.x = unwrapped _ _ more.then_ ∙ ap (λ (x : List Datagram). (l, x) ∷ more.x) {x = out.x} nothing in
    let all : sents pairs ≡ sents more.x = ap sents here in
    let rest = few_went_out m after.x.0 ls more.x few.1 more.from ∙ ap (λ (ds : List Datagram). map (beside ds) ls) (sym all) in
    let other = no_act l few.0 in
    here ∙ rw other (ap (λ (ps : List (Label × List Datagram)). (l, []) ∷ ps) {x = more.x} rest)

-- ---- segments

few_behind : (p : ℕ) (rejects last : List Label) → Each (IsRejectOf p) rejects → Few last → Few (rejects ++ last)
few_behind p [] last h few = few
few_behind p (l ∷ ls) last h few = inr (subst IsNoAct (sym h.0.2) tt, few_behind p ls last h.1 few)

few_ends : (p n : ℕ) (last : List Label) → EndsTurn p n last → Few last
few_ends p n last ran = inl (refl, tt)
few_ends p n last (fell some) = inl (refl, (tt, tt))
few_ends p n last (idle less) = inr (tt, tt)
few_ends p n last (flood full) = inr (tt, tt)

few_live : (m : Semantics) (s : State) (p c : ℕ) (labels : List Label) → IsLiveTurn m s p c labels → Few labels
few_live m s p c labels turn = subst Few (sym turn.whole) (inr (tt, few_behind p turn.rejects turn.last turn.of_process (few_ends p _ turn.last turn.ends)))

few_cut : (s : State) (p c : ℕ) (labels : List Label) → IsCutTurn s p c labels → Few labels
few_cut s p c labels (inl is) = subst Few (sym is) (inr (tt, inr (tt, tt)))
few_cut s p c labels (inr is) = subst Few (sym is.1.2) (inr (tt, inl (refl, tt)))

few_or_void : (b : Bool) (l : Label) (labels : List Label) → IsNoAct l → labels ≡ (if b then l else label.Void) ∷ [] → Few labels
few_or_void true l labels other is = subst Few (sym is) (inr (other, tt))
few_or_void false l labels other is = subst Few (sym is) (inr (tt, tt))

few_acts : (m : Semantics) (s : State) (e : Event) (labels : List Label) → IsSegment m s e labels → Few labels
few_acts m s (event.Turn p c) labels (down is) = inr (tt, tt)
few_acts m s (event.Turn p c) labels (cut_off up none turn) = few_cut s p c labels turn
few_acts m s (event.Turn p c) labels (live up cut some turn) = few_live m s p c labels turn
few_acts m s (event.Arrive q p) labels is = few_or_void _ (label.Arrive q p) labels tt is
few_acts m s (event.Lose q p i) labels is = few_or_void _ (label.Lose q p i) labels tt is
few_acts m s (event.Copy q p i) labels is = few_or_void _ (label.Copy q p i) labels tt is
few_acts m s (event.Move q p i j) labels is = few_or_void _ (label.Move q p i j) labels tt is
few_acts m s (event.Damage q p i bytes) labels is = few_or_void _ (label.Damage q p i bytes) labels tt is
few_acts m s (event.Forge q p bytes) labels is = subst Few (sym is) (inr (tt, tt))
few_acts m s (event.Cut p n) labels is = subst Few (sym is) (inr (tt, tt))

-- ---- the lines

-- the lines of an event that was recorded were written
pub served_by : (m : Semantics) (e : Event) (old new : Course) (deeds : Deeds) (before after : List ℕ) → TookPlace m e old new no_deeds deeds → Wrote (labels_text m deeds.sent deeds.labels) before after → Served m e old new before after
served_by m e old new deeds before after x w =
    let r = x.happened.recorded in
    let ds = mapped (each (datagram m) deeds.sent) _ w.lines w.shown in
    let same : ds.x ≡ sents r.pairs = some_same (each (datagram m) deeds.sent) ds.x (sents r.pairs) ds.from (ap (each (datagram m)) r.sent_are ∙ r.spelled) in
    let pairs = few_went_out m old.state x.labels r.pairs (few_acts m old.state e x.labels x.serves.segment) r.shown in
    let lines = flat_map (lines_with (names_in m)) r.pairs in
    let told : w.lines ≡ lines_text lines =
    sym ds.is ∙ ap (λ (ls : List Label). lines_text (flat_map (lines_with (names_in m)) (map (beside ds.x) ls))) r.labels_are
    ∙ ap (λ (z : List Datagram). lines_text (flat_map (lines_with (names_in m)) (map (beside z) x.labels))) same ∙ ap (λ (ps : List (Label × List Datagram)). lines_text (flat_map (lines_with (names_in m)) ps)) (sym pairs) in
    record {
      labels = x.labels;
      serves = x.serves;
      did = record {
        ran = x.happened.ran;
        chosen = x.happened.chosen;
        drawn = x.happened.drawn;
        rejected = x.happened.rejected;
        sized = x.happened.sized;
        wrote = record {
          lines = lines;
          shown = ap (λ o. option_map (flat_map (lines_with (names_in m))) o) r.shown;
          told = w.told ∙ ap (λ z. before ++ z) told;
        };
      };
    }
