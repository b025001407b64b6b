-- Lines of datagrams, one behind the other.
use Rattle.std.proofs.Common.{◌≡◌, ◌<◌, ◌+◌, ◌∙◌, ℕ, zero, suc, List, [], ◌∷◌, ◌++◌, map, length, take, get_or, Option, Some, ap, sym, subst, append_assoc}
use Rattle.std.proofs.lemmas.List.{map-append, take_more}
use Rattle.tap_base.specs.Lists.{Each}
use Rattle.tap_base.specs.Option.{each}
use Rattle.tap_exec.specs.declared.running.Outgoing.{Outgoing}
use Rattle.tap_exec.specs.Semantics.{Semantics}
use Rattle.abstract_run.specs.Kept.{AreFitSends}
use Rattle.abstract_run.specs.declared.label.Label.{Label}
use Rattle.abstract_run.specs.declared.label.Label.TheVariants as label
use Rattle.abstract_run.specs.declared.state.State.{State}
use Rattle.byte_meaning.specs.Messages.{AreValuesOf, IsFitSend}
use Rattle.run_text.proofs.Options.{bound, mapped, unwrapped}
use Rattle.run_text.specs.TraceText.{datagram, lines_text, names_in, sent_line, went_out}
use Rattle.replay.specs.inner.Judging.{Wrote, sends_text}
use Rattle.replay.proofs.Texts.{lines_append}

each_append : {A B : Type 0} (f : A → Option B) (xs us : List A) (ys ws : List B) → each f xs ≡ Some ys → each f us ≡ Some ws → each f (xs ++ us) ≡ Some (ys ++ ws)
each_append f [] us ys ws h k = k ∙ ap (λ zs. Some (zs ++ ws)) (sym (unwrapped [] ys h))
each_append f (a ∷ xs) us ys ws h k =
    let first = bound (f a) _ ys h in
    let others = bound (each f xs) (λ zs. Some (first.x ∷ zs)) ys first.then_ in
    let start = first.from in
    let rest = each_append f xs us others.x ws others.from k in
    rw (start, rest) (ap (λ zs. Some (zs ++ ws)) (sym (unwrapped _ _ others.then_)))

sent_and : (semantics : Semantics) (xs ys : List Outgoing) (before middle after : List ℕ) → Wrote (sends_text semantics xs) before middle → Wrote (sends_text semantics ys) middle after
    → Wrote (sends_text semantics (xs ++ ys)) before after
sent_and semantics xs ys before middle after w v =
    let line = sent_line (names_in semantics) in
    let a = mapped (each (datagram semantics) xs) _ w.lines w.shown in
    let b = mapped (each (datagram semantics) ys) _ v.lines v.shown in
    let both = each_append (datagram semantics) xs ys a.x b.x a.from b.from in
    record {
      lines = w.lines ++ v.lines;
      shown = rw both (ap Some (ap lines_text (map-append line a.x b.x) ∙ lines_append (map line a.x) (map line b.x) ∙ ap (λ z. z ++ lines_text (map line b.x)) a.is ∙ ap (λ z. w.lines ++ z) b.is));
      told = v.told ∙ ap (λ z. z ++ v.lines) w.told ∙ append_assoc before w.lines v.lines;
    }

-- one more datagram was written
pub sent_more : (semantics : Semantics) (sends : List Outgoing) (k : ℕ) (o : Outgoing) (before middle after : List ℕ) → k < length sends → o ≡ get_or sends k o
    → Wrote (sends_text semantics (take k sends)) before middle → Wrote (sends_text semantics (o ∷ [])) middle after
    → Wrote (sends_text semantics (take (k + 1) sends)) before after
sent_more semantics sends k o before middle after there is w v =
    let more : take (k + 1) sends ≡ take k sends ++ o ∷ [] = take_more sends k o there ∙ ap (λ x. take k sends ++ x ∷ []) (sym is) in
    subst (λ x. Wrote (sends_text semantics x) before after) (sym more) (sent_and semantics (take k sends) (o ∷ []) before middle after w v)

-- ---- what a label sends

declared : (semantics : Semantics) (p : ℕ) (sends : List Outgoing) → Each (IsFitSend semantics p) sends → Each (λ o. AreValuesOf semantics.messages o.message o.values) sends
declared semantics p [] h = tt
declared semantics p (o ∷ os) h = (h.0.message.fitting, declared semantics p os h.1)

none : (semantics : Semantics) (sends : List Outgoing) → sends ≡ [] → Each (λ o. AreValuesOf semantics.messages o.message o.values) sends
none semantics sends e = subst (Each (λ o. AreValuesOf semantics.messages o.message o.values)) (sym e) tt

-- what it sends are values of declared messages
sends_declared : (semantics : Semantics) (l : Label) (sends : List Outgoing) → AreFitSends semantics l sends → Each (λ o. AreValuesOf semantics.messages o.message o.values) sends
sends_declared semantics (label.Act p a choices) sends h = declared semantics p sends h.1
sends_declared semantics (label.Tick p c) sends h = none semantics sends h
sends_declared semantics (label.Reject q p i) sends h = none semantics sends h
sends_declared semantics (label.Idle p) sends h = none semantics sends h
sends_declared semantics (label.Flood p) sends h = none semantics sends h
sends_declared semantics (label.Arrive q p) sends h = none semantics sends h
sends_declared semantics (label.Lose q p i) sends h = none semantics sends h
sends_declared semantics (label.Copy q p i) sends h = none semantics sends h
sends_declared semantics (label.Move q p i j) sends h = none semantics sends h
sends_declared semantics (label.Damage q p i bytes) sends h = none semantics sends h
sends_declared semantics (label.Forge q p bytes) sends h = none semantics sends h
sends_declared semantics (label.Cut p n) sends h = none semantics sends h
sends_declared semantics (label.Stop p receivers) sends h = none semantics sends h
sends_declared semantics (label.Down p) sends h = none semantics sends h
sends_declared semantics label.Void sends h = none semantics sends h

each_front : {A : Type 0} (P : A → Type 0) (n : ℕ) (xs : List A) → Each P xs → Each P (take n xs)
each_front P zero xs h = tt
each_front P (suc n) [] h = tt
each_front P (suc n) (x ∷ xs) h = (h.0, each_front P n xs h.1)

-- and so are those that went out
pub out_declared : (semantics : Semantics) (l : Label) (t : State) (sends out : List Outgoing) → AreFitSends semantics l sends → out ≡ went_out (t, sends)
    → Each (λ o. AreValuesOf semantics.messages o.message o.values) out
out_declared semantics l t sends out h e =
    subst (Each (λ o. AreValuesOf semantics.messages o.message o.values)) (sym e) (each_front (λ o. AreValuesOf semantics.messages o.message o.values) _ sends (sends_declared semantics l sends h))
