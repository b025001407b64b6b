-- The lines of what a world did are those of its labels.
use Rattle.std.proofs.Common.{◌≡◌, ◌<◌, ◌+◌, ◌∙◌, ℕ, ℤ, true, false, List, [], ◌∷◌, ◌++◌, map, length, take, get_or, Some, refl, ap, sym, subst, append_assoc, append-nil}
use Rattle.std.proofs.lemmas.Grind.{flat_map-append}
use Rattle.std.proofs.lemmas.List.{map-append, take_more}
use Rattle.std.specs.Prelude.{flat_map}
use Rattle.tap_base.specs.Lists.{Each}
use Rattle.tap_base.specs.Option.{each}
use Rattle.tap_exec.specs.declared.running.Outgoing.{Outgoing}
use Rattle.tap_exec.specs.Semantics.{Semantics}
use Rattle.byte_meaning.specs.Messages.{AreValuesOf}
use Rattle.abstract_run.specs.declared.label.Label.{Label}
use Rattle.abstract_run.specs.declared.label.Label.TheVariants as label
use Rattle.run_text.proofs.Options.{mapped, some_same}
use Rattle.run_text.specs.TraceText.{Datagram, datagram, label_line, lines_text, lines_with, names_in, sent_line}
use Rattle.world_run.specs.inner.Writing.{Wrote, beside, is_act, labels_text, sends_text}
use Rattle.world_run.proofs.Recording.{datagrams_of, each_append}

pub lines_append : (a b : List (List ℕ)) → lines_text (a ++ b) ≡ lines_text a ++ lines_text b
lines_append a b = flat_map-append (λ l. l ++ 10 ∷ []) a b

-- ---- datagrams

sent_and : (semantics : Semantics) (xs ys : List Outgoing) (before middle after : List ℕ) → Wrote (sends_text semantics xs) before middle → Wrote (sends_text semantics ys) middle after
    → Wrote (sends_text semantics (xs ++ ys)) before after
sent_and semantics xs ys before middle after w v =
    let line = sent_line (names_in semantics) in
    let a = mapped (each (datagram semantics) xs) _ w.lines w.shown in
    let b = mapped (each (datagram semantics) ys) _ v.lines v.shown in
    let both = each_append (datagram semantics) xs ys a.x b.x a.from b.from in
    record {
      lines = w.lines ++ v.lines;
      shown = rw both (ap Some (ap lines_text (map-append line a.x b.x) ∙ lines_append (map line a.x) (map line b.x) ∙ ap (λ z. z ++ lines_text (map line b.x)) a.is ∙ ap (λ z. w.lines ++ z) b.is));
      told = v.told ∙ ap (λ z. z ++ v.lines) w.told ∙ append_assoc before w.lines v.lines;
    }

-- one more datagram was written
pub sent_more : (semantics : Semantics) (sends : List Outgoing) (k : ℕ) (o : Outgoing) (before middle after : List ℕ) → k < length sends → o ≡ get_or sends k o
    → Wrote (sends_text semantics (take k sends)) before middle → Wrote (sends_text semantics (o ∷ [])) middle after
    → Wrote (sends_text semantics (take (k + 1) sends)) before after
sent_more semantics sends k o before middle after there is w v =
    let more : take (k + 1) sends ≡ take k sends ++ o ∷ [] = take_more sends k o there ∙ ap (λ x. take k sends ++ x ∷ []) (sym is) in
    subst (λ x. Wrote (sends_text semantics x) before after) (sym more) (sent_and semantics (take k sends) (o ∷ []) before middle after w v)

-- ---- one label

pub not_act : (l : Label) → ((p a : ℕ) (choices : List ℤ) → l ≡ label.Act p a choices → ⊥) → is_act l ≡ false
not_act (label.Act p a choices) other = absurd (other p a choices refl)
not_act _ other = refl

-- an action: its line, and then those of what went out
pub act_wrote : (m : Semantics) (l : Label) (sends : List Outgoing) (before middle after : List ℕ) → is_act l ≡ true → middle ≡ before ++ (label_line (names_in m) l ++ 10 ∷ [])
    → Wrote (sends_text m sends) middle after → Wrote (labels_text m sends (l ∷ [])) before after
act_wrote m l sends before middle after act first w =
    let line = label_line (names_in m) l in
    let a = mapped (each (datagram m) sends) _ w.lines w.shown in
    let told = a.from in
    record {
      lines = (line ++ 10 ∷ []) ++ w.lines;
      shown = rw (told, act) (ap (λ z. Some (lines_text z)) (append-nil (line ∷ map (sent_line (names_in m)) a.x)) ∙ ap (λ z. Some ((line ++ 10 ∷ []) ++ z)) a.is);
      told = w.told ∙ ap (λ z. z ++ w.lines) first ∙ append_assoc before (line ++ 10 ∷ []) w.lines;
    }

-- another label: its line alone
pub other_wrote : (m : Semantics) (l : Label) (sends : List Outgoing) (before after : List ℕ) → is_act l ≡ false → Each (λ o. AreValuesOf m.messages o.message o.values) sends
    → after ≡ before ++ (label_line (names_in m) l ++ 10 ∷ []) → Wrote (labels_text m sends (l ∷ [])) before after
other_wrote m l sends before after other fit first =
    let line = label_line (names_in m) l in
    let ds = datagrams_of m sends fit in
    let told = ds.1 in
    record { lines = line ++ 10 ∷ []; shown = rw (told, other) (ap Some (append-nil (line ++ 10 ∷ []))); told = first }

-- ---- many

pub none_written : (m : Semantics) (sends : List Outgoing) (text : List ℕ) → Each (λ o. AreValuesOf m.messages o.message o.values) sends → Wrote (labels_text m sends []) text text
none_written m sends text fit = let told = (datagrams_of m sends fit).1 in record { lines = []; shown = rw told refl; told = sym (append-nil text) }

labels_and : (m : Semantics) (sends : List Outgoing) (xs ys : List Label) (before middle after : List ℕ) → Wrote (labels_text m sends xs) before middle → Wrote (labels_text m sends ys) middle after
    → Wrote (labels_text m sends (xs ++ ys)) before after
labels_and m sends xs ys before middle after w v =
    let lines = lines_with (names_in m) in
    let a = mapped (each (datagram m) sends) _ w.lines w.shown in
    let b = mapped (each (datagram m) sends) _ v.lines v.shown in
    let same : b.x ≡ a.x = some_same (each (datagram m) sends) b.x a.x b.from a.from in
    let front = map (beside a.x) xs in
    let behind = map (beside a.x) ys in
    let rest : lines_text (flat_map lines behind) ≡ v.lines = subst (λ (ds : List Datagram). lines_text (flat_map lines (map (beside ds) ys)) ≡ v.lines) same b.is in
    let told = a.from in
    record {
      lines = w.lines ++ v.lines;
      shown = rw told (ap Some (ap (λ z. lines_text (flat_map lines z)) (map-append (beside a.x) xs ys) ∙ ap lines_text (flat_map-append lines front behind) ∙ lines_append (flat_map lines front) (flat_map lines behind)
          ∙ ap (λ z. z ++ lines_text (flat_map lines behind)) a.is ∙ ap (λ z. w.lines ++ z) rest));
      told = v.told ∙ ap (λ z. z ++ v.lines) w.told ∙ append_assoc before w.lines v.lines;
    }

-- the lines of one more label were written
pub label_more : (m : Semantics) (sends : List Outgoing) (labels : List Label) (k : ℕ) (l : Label) (before middle after : List ℕ) → k < length labels → l ≡ get_or labels k l
    → Wrote (labels_text m sends (take k labels)) before middle → Wrote (labels_text m sends (l ∷ [])) middle after
    → Wrote (labels_text m sends (take (k + 1) labels)) before after
label_more m sends labels k l before middle after there is w v =
    let more : take (k + 1) labels ≡ take k labels ++ l ∷ [] = take_more labels k l there ∙ ap (λ x. take k labels ++ x ∷ []) (sym is) in
    subst (λ x. Wrote (labels_text m sends x) before after) (sym more) (labels_and m sends (take k labels) (l ∷ []) before middle after w v)
