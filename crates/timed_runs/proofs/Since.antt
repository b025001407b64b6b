-- What is known of a timer at a place of a run, and after one more label that leaves it.
use Rattle.std.proofs.Common.{◌≡◌, ◌+◌, ◌^◌, ◌<◌, ◌≤◌, ◌⊎◌, inl, inr, min, ℕ, List, sym, subst, ◌∙◌, slice_get, Option, Some, arith}
use Rattle.abstract_run.specs.declared.label.Label.{Label}
use Rattle.abstract_run.specs.declared.state.State.{State}
use Rattle.tap_exec.specs.declared.running.TimerState.{TimerState}
use Rattle.tap_exec.specs.declared.running.TimerState.TheVariants as timer
use Rattle.timed_runs.specs.Delays.{IsReading, LeavesArmed, timer_before}
use Rattle.tap_exec.specs.Semantics.{Semantics}

-- a place before the next one is this one or stands before it
pub here_or_before : (h n : ℕ) → h < n + 1 → (h ≡ n) ⊎ (h < n)
here_or_before h n l = grind arith

module _ (semantics : Semantics) (s : State) (labels : List Label) (p t : ℕ) where
  abbrev pub Armed : ℕ → ℕ → Type 0
  Armed i delay = LeavesArmed semantics s labels p t i delay

  abbrev pub Reads : ℕ → ℕ → Type 0
  Reads j c = IsReading semantics s labels p t j c

  abbrev pub before : ℕ → Option TimerState
  before n = timer_before semantics s labels p t n

  -- armed by the action at i, before n, and not read since
  pub record ArmedSince (n delay : ℕ) : Type 0 where
    pub i : ℕ
    pub armed : Armed i delay
    pub armed_before : i < n
    pub last : (h d : ℕ) → i < h → h < n → ¬ Armed h d
    pub unread : (h c : ℕ) → i < h → h < n → ¬ Reads h c

  -- a time is one that stood already after the reading at j, or that of a later reading
  abbrev pub Reached : ℕ → ℕ → ℕ → ℕ → Type 0
  Reached j start n time = (time ≤ start) ⊎ ((m : ℕ) × (c : ℕ) × Reads m c × (j ≤ m) × (m < n) × (time ≤ min c (2 ^ 62)))

  -- dated by the reading at j, before n, which made the time `start`
  pub record DueSince (n at : ℕ) (u : State) : Type 0 where
    pub i : ℕ
    pub delay : ℕ
    pub armed : Armed i delay
    pub last : (h d : ℕ) → i < h → h < n → ¬ Armed h d
    pub j : ℕ
    pub reading : ℕ
    pub read : Reads j reading
    pub read_after : i < j
    pub read_before : j < n
    pub first : (h c : ℕ) → i < h → h < j → ¬ Reads h c
    pub start : ℕ
    pub started : min reading (2 ^ 62) ≤ start
    pub due : at ≡ start + delay
    pub stays : (h : ℕ) → j < h → h ≤ n → before h ≡ Some (timer.Due at)
    pub reached : (time : ℕ) → slice_get u.times p ≡ Some time → Reached j start n time

  -- what is known of the timer as the label at n comes, by its state
  abbrev pub Known : ℕ → State → Option TimerState → Type 0
  Known n u (Some (timer.Armed delay)) = ArmedSince n delay
  Known n u (Some (timer.Due at)) = DueSince n at u
  Known n u _ = Unit {0}

  -- ---- one more label

  pub armed_more : (n delay : ℕ) → ArmedSince n delay → ((d : ℕ) → ¬ Armed n d) → ((c : ℕ) → ¬ Reads n c) → ArmedSince (n + 1) delay
  armed_more n delay x none unread = record {
    i = x.i;
    armed = x.armed;
    armed_before = omega (arith, x.armed_before);
    last = λ h d k l armed. elim (here_or_before h n l) [ inl e ↦ none d (subst (λ m. Armed m d) e armed) | inr b ↦ x.last h d k b armed ];
    unread = λ h c k l read. elim (here_or_before h n l) [ inl e ↦ unread c (subst (λ m. Reads m c) e read) | inr b ↦ x.unread h c k b read ];
  }

  -- what is armed after a label is not due then
  pub not_armed : (n at d : ℕ) → before (n + 1) ≡ Some (timer.Due at) → ¬ Armed n d
  not_armed n at d e armed = let both : Some (timer.Due at) ≡ Some (timer.Armed d) = sym e ∙ armed.armed in cc

  pub reached_more : (j start n m time : ℕ) → Reached j start n time → n ≤ m → Reached j start m time
  reached_more j start n m time (inl l) h = inl l
  reached_more j start n m time (inr x) h = inr (x.0, x.1, x.2, x.3, omega (arith, x.4, h), x.5)

  pub due_more : (n at : ℕ) (u v : State) → (x : DueSince n at u) → before (n + 1) ≡ Some (timer.Due at) → ((time : ℕ) → slice_get v.times p ≡ Some time → Reached x.j x.start (n + 1) time) → DueSince (n + 1) at v
  due_more n at u v x here reached = record {
    i = x.i;
    delay = x.delay;
    armed = x.armed;
    last = λ h d k l armed. elim (here_or_before h n l) [ inl e ↦ not_armed n at d here (subst (λ m. Armed m d) e armed) | inr b ↦ x.last h d k b armed ];
    j = x.j;
    reading = x.reading;
    read = x.read;
    read_after = x.read_after;
    read_before = omega (arith, x.read_before);
    first = x.first;
    start = x.start;
    started = x.started;
    due = x.due;
    stays = λ h k l. elim (here_or_later h n l) [ inl e ↦ subst (λ m. before m ≡ Some (timer.Due at)) (sym e) here | inr b ↦ x.stays h k b ];
    reached = reached;
  } where
    here_or_later : (h n : ℕ) → h ≤ n + 1 → (h ≡ n + 1) ⊎ (h ≤ n)
    here_or_later h n l = grind arith
