-- Labels and what went out with them are recorded, one behind the other.
use Rattle.std.proofs.Common.{◌≡◌, ◌∙◌, List, [], ◌∷◌, ◌++◌, Option, Some, refl, ap, sym, subst, append_assoc, append-nil}
use Rattle.std.proofs.lemmas.Grind.{flat_map-append}
use Rattle.tap_base.specs.Lists.{Each}
use Rattle.tap_base.specs.Option.{each}
use Rattle.tap_exec.specs.declared.running.Outgoing.{Outgoing}
use Rattle.tap_exec.specs.Semantics.{Semantics}
use Rattle.byte_meaning.specs.Messages.{AreValuesOf}
use Rattle.byte_meaning.specs.Spelling.{spelling}
use Rattle.abstract_run.specs.declared.label.Label.{Label}
use Rattle.abstract_run.specs.declared.state.State.{State}
use Rattle.abstract_run.specs.Run.{state_after}
use Rattle.abstract_run.specs.Step.{step}
use Rattle.run_text.specs.TraceText.{Datagram, datagram, went_out, with_sents}
use Rattle.run_text.proofs.Options.{bound, some_same, unwrapped}
use Rattle.world_run.specs.declared.deeds.Deeds.{Deeds}
use Rattle.world_run.specs.Served.{Recorded}
use Rattle.world_run.specs.inner.Serving.{KeepsLabel}

-- ---- lists

pub both : {A : Type 0} (P : A → Type 0) (xs ys : List A) → Each P xs → Each P ys → Each P (xs ++ ys)
both P [] ys h k = k
both P (x ∷ xs) ys h k = (h.0, both P xs ys h.1 k)

pub each_append : {A B : Type 0} (f : A → Option B) (xs us : List A) (ys ws : List B) → each f xs ≡ Some ys → each f us ≡ Some ws → each f (xs ++ us) ≡ Some (ys ++ ws)
each_append f [] us ys ws h k = k ∙ ap (λ zs. Some (zs ++ ws)) (sym (unwrapped [] ys h))
each_append f (a ∷ xs) us ys ws h k =
    let first = bound (f a) _ ys h in
    let others = bound (each f xs) (λ zs. Some (first.x ∷ zs)) ys first.then_ in
    let start = first.from in
    let rest = each_append f xs us others.x ws others.from k in
    rw (start, rest) (ap (λ zs. Some (zs ++ ws)) (sym (unwrapped _ _ others.then_)))

-- messages that are declared are datagrams
pub datagrams_of : (m : Semantics) (sends : List Outgoing) → Each (λ o. AreValuesOf m.messages o.message o.values) sends → (ds : List Datagram) × (each (datagram m) sends ≡ Some ds)
datagrams_of m [] fit = ([], refl)
datagrams_of m (o ∷ os) fit =
    let rest = datagrams_of m os fit.1 in
    let declared = fit.0.declared in
    let others = rest.1 in
    ((o.to, spelling fit.0.fields o.values) ∷ rest.0, rw (declared, others) refl)

-- ---- labels

-- labels with what went out, and others behind them
pub with_sents_more : (m : Semantics) (s t : State) (xs ys : List Label) (a b : List (Label × List Datagram)) → state_after m s xs ≡ Some t → with_sents m s xs ≡ Some a → with_sents m t ys ≡ Some b
    → with_sents m s (xs ++ ys) ≡ Some (a ++ b)
with_sents_more m s t [] ys a b ran h k = subst (λ u. with_sents m u ys ≡ Some (a ++ b)) (unwrapped s t ran) (k ∙ ap (λ z. Some (z ++ b)) (sym (unwrapped [] a h)))
with_sents_more m s t (l ∷ xs) ys a b ran h k =
    let after = bound (step m s l) _ a h in
    let out = bound (each (datagram m) (went_out after.x)) _ a after.then_ in
    let more = bound (with_sents m after.x.0 xs) (λ ps. Some ((l, out.x) ∷ ps)) a out.then_ in
    let goes = bound (step m s l) _ t ran in
    let same = some_same (step m s l) goes.x after.x goes.from after.from in
    let rest = with_sents_more m after.x.0 t xs ys more.x b (subst (λ u. state_after m u.0 xs ≡ Some t) same goes.then_) more.from k in
    let stepped = after.from in
    let sent = out.from in
    let whole = sym (unwrapped ((l, out.x) ∷ more.x) a more.then_) in
    rw (stepped, sent, rest) (ap (λ (ps : List (Label × List Datagram)). Some (ps ++ b)) {x = (l, out.x) ∷ more.x} whole)

-- nothing
pub none_recorded : (m : Semantics) (s : State) (deeds : Deeds) → Recorded m s [] deeds deeds
none_recorded m s deeds = record {
  pairs = [];
  shown = refl;
  labels_are = sym (append-nil deeds.labels);
  out = [];
  sent_are = sym (append-nil deeds.sent);
  fitting = tt;
  spelled = refl;
}

-- one label
pub one_recorded : (m : Semantics) (s t : State) (l : Label) (sends : List Outgoing) (before after : Deeds) → step m s l ≡ Some (t, sends)
    → Each (λ o. AreValuesOf m.messages o.message o.values) (went_out (t, sends)) → KeepsLabel l t sends before after → Recorded m s (l ∷ []) before after
one_recorded m s t l sends before after ran fit kept =
    let ds = datagrams_of m (went_out (t, sends)) fit in
    let told = ds.1 in
    record {
      pairs = (l, ds.0) ∷ [];
      shown = rw (ran, told) refl;
      labels_are = kept.labels;
      out = went_out (t, sends);
      sent_are = kept.sent;
      fitting = fit;
      spelled = told ∙ ap Some (sym (append-nil ds.0));
    }

-- labels, and others behind them
pub recorded_more : (m : Semantics) (s t : State) (xs ys : List Label) (before middle after : Deeds) → state_after m s xs ≡ Some t → Recorded m s xs before middle → Recorded m t ys middle after
    → Recorded m s (xs ++ ys) before after
recorded_more m s t xs ys before middle after ran a b = record {
  pairs = a.pairs ++ b.pairs;
  shown = with_sents_more m s t xs ys a.pairs b.pairs ran a.shown b.shown;
  labels_are = b.labels_are ∙ ap (λ z. z ++ ys) a.labels_are ∙ append_assoc before.labels xs ys;
  out = a.out ++ b.out;
  sent_are = b.sent_are ∙ ap (λ z. z ++ b.out) a.sent_are ∙ append_assoc before.sent a.out b.out;
  fitting = both (λ o. AreValuesOf m.messages o.message o.values) a.out b.out a.fitting b.fitting;
  spelled = each_append (datagram m) a.out b.out _ _ a.spelled b.spelled ∙ ap Some (sym (flat_map-append (λ (x : Label × List Datagram). x.1) a.pairs b.pairs));
}
