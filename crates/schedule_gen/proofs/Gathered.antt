-- The lines of the first events, put and gathered.
use Rattle.std.proofs.Common.{◌≡◌, ◌⊎◌, inl, inr, refl, ap, sym, subst, ◌∙◌, ℕ, zero, suc, ◌+◌, ◌-◌, ◌≤◌, List, [], ◌∷◌, ◌++◌, flat_map, Option, Some, None, map, arith, zero-add, append_assoc, append-nil}
use Rattle.std.specs.Io.KnownBytes.{Appends}
use Rattle.std.proofs.lemmas.Grind.{flat_map-append}
use Rattle.std.proofs.lemmas.List.{map-append}
use Rattle.abstract_run.specs.declared.label.Event.{Event}
use Rattle.run_text.specs.ScheduleText.{event_line, events_text}
use Rattle.schedule_gen.specs.Laws.{behind_events}
use Rattle.schedule_gen.specs.Schedule.{Making, events_from, next_event, rest}
use Rattle.schedule_gen.proofs.Goes.{goes_on}

-- ---- bytes

pub appends_none : (a : Option (List ℕ)) → Appends a a []
appends_none None = tt
appends_none (Some xs) = sym (append-nil xs)

appends_more : (a b c : Option (List ℕ)) (xs ys : List ℕ) → Appends a b xs → Appends b c ys → Appends a c (xs ++ ys)
appends_more None b c xs ys h k = tt
appends_more (Some a) None c xs ys h k = absurd h
appends_more (Some a) (Some b) None xs ys h k = absurd k
appends_more (Some a) (Some b) (Some c) xs ys h k = k ∙ ap (λ zs. zs ++ ys) h ∙ append_assoc a xs ys

-- ---- events

one : (m : Making) → events_from 1 m ≡ next_event m ∷ []
unfolding events_from
one m = refl

behind_joined : (n k : ℕ) (m : Making) → behind_events k (behind_events n m) ≡ behind_events (n + k) m
unfolding behind_events
behind_joined zero k m = ap (λ j. behind_events j m) (sym (zero-add k))
behind_joined (suc n) k m = let e : suc (n + k) ≡ suc n + k = omega arith in behind_joined n k (rest m) ∙ ap (λ j. behind_events j m) e

one_behind : (m : Making) → behind_events 1 m ≡ rest m
unfolding behind_events
one_behind m = refl

module _ (names : List (List ℕ)) where
  -- the lines of so many events
  abbrev pub lines : ℕ → Making → List ℕ
  lines n m = events_text names (events_from n m)

  text_joined : (es fs : List Event) → events_text names (es ++ fs) ≡ events_text names es ++ events_text names fs
  text_joined es fs = ap (λ ls. flat_map (λ l. l ++ 10 ∷ []) ls) (map-append (event_line names) es fs) ∙ flat_map-append (λ l. l ++ 10 ∷ []) (map (event_line names) es) (map (event_line names) fs)

  pub lines_joined : (n k : ℕ) (m : Making) → lines (n + k) m ≡ lines n m ++ lines k (behind_events n m)
  lines_joined n k m = ap (events_text names) (goes_on n k m) ∙ text_joined (events_from n m) (events_from k (behind_events n m))

  one_line : (m : Making) → lines 1 m ≡ event_line names (next_event m) ++ 10 ∷ []
  one_line m = ap (events_text names) (one m) ∙ append-nil (event_line names (next_event m) ++ 10 ∷ [])

  -- Of the first i events the first lines were put, since a moment, and the others are the page. Behind them the generator goes on.
  pub record Gathered (m : Making) (i : ℕ) (g : Making) (before now : Option (List ℕ)) (page : List ℕ) : Type 0 where
    pub done : ℕ
    pub more : ℕ
    pub count : i ≡ done + more
    pub put : Appends before now (lines done m)
    pub gathered : page ≡ lines more (behind_events done m)
    pub behind : g ≡ behind_events i m

  pub none_put : (m : Making) (n : ℕ) (before : Option (List ℕ)) → (k : ℕ) × (k ≤ n) × Appends before before (lines k m)
  unfolding events_from
  none_put m n before = (0, omega arith, appends_none before)

  pub none_gathered : (m : Making) (before : Option (List ℕ)) → Gathered m 0 m before before []
  unfolding events_from behind_events
  none_gathered m before = record {
    done = 0;
    more = 0;
    count = refl;
    put = appends_none before;
    gathered = refl;
    behind = refl;
  }

  -- one more line
  pub one_gathered : (m g after : Making) (i : ℕ) (before now : Option (List ℕ)) (page longer : List ℕ) (e : Event) → Gathered m i g before now page
      → e ≡ next_event g → after ≡ rest g → longer ≡ page ++ event_line names e ++ 10 ∷ [] → Gathered m (i + 1) after before now longer
  one_gathered m g after i before now page longer e h is next written =
      let here : g ≡ behind_events h.more (behind_events h.done m) = h.behind ∙ ap (λ j. behind_events j m) h.count ∙ sym (behind_joined h.done h.more m) in
      record {
        done = h.done;
        more = h.more + 1;
        count = let c = h.count in omega (arith, c);
        put = h.put;
        gathered =
            written
            ∙ ap (λ x. page ++ event_line names x ++ 10 ∷ []) is
            ∙ append_assoc page (event_line names (next_event g)) (10 ∷ [])
            ∙ ap (λ x. page ++ x) (sym (one_line g) ∙ ap (lines 1) here)
            ∙ ap (λ x. x ++ lines 1 (behind_events h.more (behind_events h.done m))) h.gathered
            ∙ sym (lines_joined h.more 1 (behind_events h.done m));
        behind = next ∙ ap rest h.behind ∙ sym (one_behind (behind_events i m)) ∙ behind_joined i 1 m;
      }

  -- all lines are those of the first events
  pub all_put : (m g : Making) (i : ℕ) (before now then : Option (List ℕ)) (page : List ℕ) → Gathered m i g before now page → Appends now then page → Appends before then (lines i m)
  all_put m g i before now then page h put =
      subst (Appends before then) (ap (λ x. lines h.done m ++ x) h.gathered ∙ sym (lines_joined h.done h.more m) ∙ ap (λ j. lines j m) (sym h.count))
      (appends_more before now then (lines h.done m) page h.put put)

  -- the page was put, or stays
  pub page_put : (m g : Making) (i : ℕ) (before now then : Option (List ℕ)) (page left : List ℕ) → Gathered m i g before now page
      → ((left ≡ page) × (then ≡ now)) ⊎ (Appends now then page × (left ≡ [])) → Gathered m i g before then left
  unfolding events_from
  page_put m g i before now then page left h (inl kept) =
      subst (λ t. Gathered m i g before t left) (sym kept.1) (subst (λ p. Gathered m i g before now p) (sym kept.0) h)
  page_put m g i before now then page left h (inr put) = record {
    done = i;
    more = 0;
    count = omega arith;
    put = all_put m g i before now then page h put.0;
    gathered = put.1;
    behind = h.behind;
  }

  -- a front of the page, behind what was put, is a front of the lines of more events
  pub front_put : (m g : Making) (i n : ℕ) (before now then : Option (List ℕ)) (page front behind : List ℕ) → i ≤ n → Gathered m i g before now page
      → front ++ behind ≡ page → Appends now then front → (f r : List ℕ) × (f ++ r ≡ lines n m) × Appends before then f
  front_put m g i n before now then page front behind few h cut put =
      let left : n ≡ i + (n - i) = omega (arith, few) in
      let rest = lines (n - i) (behind_events i m) in (
        lines h.done m ++ front,
        behind ++ rest,
        append_assoc (lines h.done m) front (behind ++ rest)
            ∙ ap (λ x. lines h.done m ++ x) (sym (append_assoc front behind rest) ∙ ap (λ x. x ++ rest) (cut ∙ h.gathered))
            ∙ sym (append_assoc (lines h.done m) (lines h.more (behind_events h.done m)) rest)
            ∙ ap (λ x. x ++ rest) (sym (lines_joined h.done h.more m) ∙ ap (λ j. lines j m) (sym h.count))
            ∙ sym (lines_joined i (n - i) m)
            ∙ ap (λ j. lines j m) (sym left),
        appends_more before now then (lines h.done m) front h.put put,
      )

  -- whole lines were put, of no more events
  pub some_put : (m g : Making) (i n : ℕ) (before now : Option (List ℕ)) (page : List ℕ) → i ≤ n → Gathered m i g before now page → (k : ℕ) × (k ≤ n) × Appends before now (lines k m)
  some_put m g i n before now page few h = let c = h.count in (h.done, omega (arith, few, c), h.put)
