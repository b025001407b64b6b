-- One label, and what it leaves of a course.
use Rattle.std.proofs.Common.{◌≡◌, ◌+◌, ◌≤◌, ◌∙◌, ℕ, zero, suc, List, [], ◌∷◌, ◌++◌, length, take, refl, ap, sym, subst, Option, Some, option_and_then, arith}
use Rattle.std.proofs.lemmas.Option.{option_and_then_some}
use Rattle.tap_base.specs.Lists.{Each}
use Rattle.tap_exec.specs.declared.running.Outgoing.{Outgoing}
use Rattle.tap_exec.specs.Semantics.{Semantics}
use Rattle.byte_meaning.specs.Messages.{AreValuesOf, IsFitSend}
use Rattle.guard_scheduler.specs.Cursor.{Cursor}
use Rattle.rand_pcg.specs.Lcg.{Lcg}
use Rattle.abstract_run.specs.declared.label.Label.{Label}
use Rattle.abstract_run.specs.declared.label.Label.TheVariants as label
use Rattle.abstract_run.specs.declared.state.State.{State}
use Rattle.abstract_run.specs.CellCount.{CountsCells, cells_in, cells_put, cells_taken}
use Rattle.abstract_run.specs.Fits.{Fits}
use Rattle.abstract_run.specs.Kept.{AreFitSends}
use Rattle.abstract_run.specs.Run.{state_after}
use Rattle.abstract_run.specs.Step.{After, step}
use Rattle.exact_choice.specs.Choice.{AllChoose, Chooses}
use Rattle.exact_choice.specs.Draws.{AllDraw, Draws}
use Rattle.exact_choice.specs.Moments.{moments}
use Rattle.exact_choice.specs.Rejects.{AllReject, Rejects}
use Rattle.exact_choice.proofs.Cursors.{cursors_kept}
use Rattle.exact_choice.proofs.Drawn.{all_draw_joined, generators_kept}
use Rattle.exact_choice.proofs.Joined.{all_joined, moments_joined}
use Rattle.exact_choice.proofs.RejectsJoined.{all_reject_joined}
use Rattle.exact_choice.proofs.RejectsKept.{errors_kept}
use Rattle.run_text.specs.Sized.{IsSized}
use Rattle.run_text.specs.TraceText.{went_out}
use Rattle.world_run.specs.declared.course.Course.{Course}
use Rattle.world_run.specs.declared.deeds.Deeds.{Deeds}
use Rattle.world_run.specs.Served.{Happened, IsCourse}
use Rattle.world_run.specs.inner.Serving.{DidOne, IsPlain, KeepsLabel, most_more}
use Rattle.world_run.proofs.Recording.{both, none_recorded, one_recorded, recorded_more}

-- ---- what a label sends

declared : (semantics : Semantics) (p : ℕ) (sends : List Outgoing) → Each (IsFitSend semantics p) sends → Each (λ o. AreValuesOf semantics.messages o.message o.values) sends
declared semantics p [] h = tt
declared semantics p (o ∷ os) h = (h.0.message.fitting, declared semantics p os h.1)

none : (semantics : Semantics) (sends : List Outgoing) → sends ≡ [] → Each (λ o. AreValuesOf semantics.messages o.message o.values) sends
none semantics sends e = subst (Each (λ o. AreValuesOf semantics.messages o.message o.values)) (sym e) tt

-- what it sends are values of declared messages
pub sends_declared : (semantics : Semantics) (l : Label) (sends : List Outgoing) → AreFitSends semantics l sends → Each (λ o. AreValuesOf semantics.messages o.message o.values) sends
sends_declared semantics (label.Act p a choices) sends h = declared semantics p sends h.1
sends_declared semantics (label.Tick p c) sends h = none semantics sends h
sends_declared semantics (label.Reject q p i) sends h = none semantics sends h
sends_declared semantics (label.Idle p) sends h = none semantics sends h
sends_declared semantics (label.Flood p) sends h = none semantics sends h
sends_declared semantics (label.Arrive q p) sends h = none semantics sends h
sends_declared semantics (label.Lose q p i) sends h = none semantics sends h
sends_declared semantics (label.Copy q p i) sends h = none semantics sends h
sends_declared semantics (label.Move q p i j) sends h = none semantics sends h
sends_declared semantics (label.Damage q p i bytes) sends h = none semantics sends h
sends_declared semantics (label.Forge q p bytes) sends h = none semantics sends h
sends_declared semantics (label.Cut p n) sends h = none semantics sends h
sends_declared semantics (label.Stop p receivers) sends h = none semantics sends h
sends_declared semantics (label.Down p) sends h = none semantics sends h
sends_declared semantics label.Void sends h = none semantics sends h

each_front : {A : Type 0} (P : A → Type 0) (n : ℕ) (xs : List A) → Each P xs → Each P (take n xs)
each_front P zero xs h = tt
each_front P (suc n) [] h = tt
each_front P (suc n) (x ∷ xs) h = (h.0, each_front P n xs h.1)

-- and so are those that went out
out_declared : (semantics : Semantics) (l : Label) (t : State) (sends : List Outgoing) → AreFitSends semantics l sends
    → Each (λ o. AreValuesOf semantics.messages o.message o.values) (went_out (t, sends))
out_declared semantics l t sends h = each_front (λ o. AreValuesOf semantics.messages o.message o.values) _ sends (sends_declared semantics l sends h)

-- ---- how many cells it leaves

none_more : (sends : List Outgoing) (n m : ℕ) → sends ≡ [] → n ≤ m → n + length sends ≤ m
none_more sends n m e few = let none = ap length e in omega (arith, none, few)

more : (semantics : Semantics) (l : Label) (sends : List Outgoing) → AreFitSends semantics l sends → cells_put l + length sends ≤ most_more l
more semantics (label.Act p a choices) sends h = omega (arith, h.0)
more semantics (label.Tick p c) sends h = none_more sends 0 0 h (omega arith)
more semantics (label.Reject q p i) sends h = none_more sends 0 0 h (omega arith)
more semantics (label.Idle p) sends h = none_more sends 0 0 h (omega arith)
more semantics (label.Flood p) sends h = none_more sends 0 0 h (omega arith)
more semantics (label.Arrive q p) sends h = none_more sends 0 0 h (omega arith)
more semantics (label.Lose q p i) sends h = none_more sends 0 0 h (omega arith)
more semantics (label.Copy q p i) sends h = none_more sends 1 1 h (omega arith)
more semantics (label.Move q p i j) sends h = none_more sends 0 0 h (omega arith)
more semantics (label.Damage q p i bytes) sends h = none_more sends 0 0 h (omega arith)
more semantics (label.Forge q p bytes) sends h = none_more sends 1 1 h (omega arith)
more semantics (label.Cut p n) sends h = none_more sends 0 0 h (omega arith)
more semantics (label.Stop p receivers) sends h = none_more sends 0 0 h (omega arith)
more semantics (label.Down p) sends h = none_more sends 0 0 h (omega arith)
more semantics label.Void sends h = none_more sends 0 0 h (omega arith)

few_more : (l : Label) → most_more l ≤ 64
few_more (label.Act p a choices) = omega arith
few_more (label.Tick p c) = omega arith
few_more (label.Reject q p i) = omega arith
few_more (label.Idle p) = omega arith
few_more (label.Flood p) = omega arith
few_more (label.Arrive q p) = omega arith
few_more (label.Lose q p i) = omega arith
few_more (label.Copy q p i) = omega arith
few_more (label.Move q p i j) = omega arith
few_more (label.Damage q p i bytes) = omega arith
few_more (label.Forge q p bytes) = omega arith
few_more (label.Cut p n) = omega arith
few_more (label.Stop p receivers) = omega arith
few_more (label.Down p) = omega arith
few_more label.Void = omega arith

-- a label leaves at most 64 cells more
pub more_cells : (l : Label) (old new : ℕ) → new ≤ old + most_more l → new ≤ old + 64
more_cells l old new h = let few = few_more l in omega (arith, few, h)

pub few_sends : (semantics : Semantics) (l : Label) (sends : List Outgoing) → AreFitSends semantics l sends → length sends ≤ 64
few_sends semantics l sends h = let one = more semantics l sends h in let few = few_more l in omega (arith, one, few)

pub taken_there : (semantics : Semantics) (l : Label) (s t : State) (sends : List Outgoing) (cells : ℕ) → CountsCells semantics l s sends t → cells ≡ cells_in s
    → cells_taken semantics l ≤ cells + (cells_put l + length sends)
taken_there semantics l s t sends cells counted is = omega (arith, counted, is)

-- ---- a label was done

pub did_one : (semantics : Semantics) (old new : Course) (l : Label) (sends : List Outgoing) (before after : Deeds) → step semantics old.state l ≡ Some (new.state, sends)
    → Fits semantics new.state → AreFitSends semantics l sends → CountsCells semantics l old.state sends new.state → old.cells ≡ cells_in old.state
    → new.cells + cells_taken semantics l ≡ old.cells + (cells_put l + length sends) → KeepsLabel l new.state sends before after → DidOne semantics l old new before after
did_one semantics old new l sends before after ran fits fit counted was is w = record {
  sends = sends;
  ran = ran;
  fits = fits;
  cells = omega (arith, counted, was, is);
  few = let most = more semantics l sends fit in omega (arith, is, most);
  recorded = one_recorded semantics old.state new.state l sends before after ran (out_declared semantics l new.state sends fit) w;
}

one_after : (m : Semantics) (s t : State) (l : Label) (sends : List Outgoing) → step m s l ≡ Some (t, sends) → state_after m s (l ∷ []) ≡ Some t
one_after m s t l sends h = rw h refl

one_moment : (m : Semantics) (s t : State) (l : Label) (sends : List Outgoing) → step m s l ≡ Some (t, sends) → moments m s (l ∷ []) ≡ (s, l) ∷ []
one_moment m s t l sends h = rw h refl

-- it is a run of one label, where the cursors, the generators and the errors go on with it
pub did : (semantics : Semantics) (old new : Course) (l : Label) (before after : Deeds) → DidOne semantics l old new before after → Chooses semantics (old.state, l) old.turnstiles new.turnstiles
    → Draws semantics (old.state, l) old.generators new.generators → Rejects (old.state, l) old.errors new.errors → IsSized (length semantics.processes) l → Happened semantics (l ∷ []) old new before after
did semantics old new l before after d chosen drawn rejected sized = record {
  ran = one_after semantics old.state new.state l d.sends d.ran;
  chosen = subst (λ ms. AllChoose semantics ms old.turnstiles new.turnstiles) (sym (one_moment semantics old.state new.state l d.sends d.ran)) (new.turnstiles, chosen, refl);
  drawn = subst (λ ms. AllDraw semantics ms old.generators new.generators) (sym (one_moment semantics old.state new.state l d.sends d.ran)) (new.generators, drawn, refl);
  rejected = subst (λ ms. AllReject ms old.errors new.errors) (sym (one_moment semantics old.state new.state l d.sends d.ran)) (new.errors, rejected, refl);
  sized = (sized, tt);
  recorded = d.recorded;
}

-- and it leaves a course
pub course_after : (semantics : Semantics) (old new : Course) (l : Label) (before after : Deeds) → IsCourse semantics old → DidOne semantics l old new before after
    → Chooses semantics (old.state, l) old.turnstiles new.turnstiles → Draws semantics (old.state, l) old.generators new.generators → Rejects (old.state, l) old.errors new.errors → IsCourse semantics new
course_after semantics old new l before after course d chosen drawn rejected = record {
  fits = d.fits;
  cursors = cursors_kept semantics ((old.state, l) ∷ []) old.turnstiles new.turnstiles (new.turnstiles, chosen, refl) course.cursors;
  generators = generators_kept semantics (old.state, l) old.generators new.generators drawn ∙ course.generators;
  errors = errors_kept semantics old.state new.state l d.sends old.errors new.errors course.fits d.ran rejected course.errors;
  cells = d.cells;
}

-- a plain label leaves the cursors, the generators and the errors
pub plain_chooses : (semantics : Semantics) (s : State) (l : Label) (old new : List Cursor) → IsPlain l → new ≡ old → Chooses semantics (s, l) old new
plain_chooses semantics s (label.Act p a choices) old new plain same = absurd plain
plain_chooses semantics s (label.Arrive q p) old new plain same = absurd plain
plain_chooses semantics s (label.Reject q p i) old new plain same = absurd plain
plain_chooses semantics s _ old new plain same = same

pub plain_draws : (semantics : Semantics) (s : State) (l : Label) (old new : List Lcg) → IsPlain l → new ≡ old → Draws semantics (s, l) old new
plain_draws semantics s (label.Act p a choices) old new plain same = absurd plain
plain_draws semantics s _ old new plain same = same

pub plain_rejects : (s : State) (l : Label) (old new : List (List ℕ)) → IsPlain l → new ≡ old → Rejects (s, l) old new
plain_rejects s (label.Act p a choices) old new plain same = absurd plain
plain_rejects s (label.Arrive q p) old new plain same = absurd plain
plain_rejects s (label.Reject q p i) old new plain same = absurd plain
plain_rejects s _ old new plain same = same

-- ---- runs, one behind the other

pub did_nothing : (semantics : Semantics) (course : Course) (deeds : Deeds) → Happened semantics [] course course deeds deeds
did_nothing semantics course deeds = record { ran = refl; chosen = refl; drawn = refl; rejected = refl; sized = tt; recorded = none_recorded semantics course.state deeds }

pub goes_on : (m : Semantics) (s t u : State) (xs ys : List Label) → state_after m s xs ≡ Some t → state_after m t ys ≡ Some u → state_after m s (xs ++ ys) ≡ Some u
goes_on m s t u [] ys h k = let same : s ≡ t = cc in subst (λ x. state_after m x ys ≡ Some u) (sym same) k
goes_on m s t u (l ∷ xs) ys h k =
    option_and_then_some (λ (a : After). state_after m a.0 xs) (step m s l) t h (λ after is rest.
    ap (λ (o : Option After). option_and_then (λ a. state_after m a.0 (xs ++ ys)) o) is ∙ goes_on m after.0 t u xs ys rest k)

pub did_more : (semantics : Semantics) (a b c : Course) (xs ys : List Label) (before middle after : Deeds) → Happened semantics xs a b before middle → Happened semantics ys b c middle after
    → Happened semantics (xs ++ ys) a c before after
did_more semantics a b c xs ys before middle after d e =
    let split = moments_joined semantics a.state b.state xs ys d.ran in
    record {
      ran = goes_on semantics a.state b.state c.state xs ys d.ran e.ran;
      chosen = subst (λ ms. AllChoose semantics ms a.turnstiles c.turnstiles) (sym split)
          (all_joined semantics (moments semantics a.state xs) (moments semantics b.state ys) a.turnstiles b.turnstiles c.turnstiles d.chosen e.chosen);
      drawn = subst (λ ms. AllDraw semantics ms a.generators c.generators) (sym split)
          (all_draw_joined semantics (moments semantics a.state xs) (moments semantics b.state ys) a.generators b.generators c.generators d.drawn e.drawn);
      rejected = subst (λ ms. AllReject ms a.errors c.errors) (sym split) (all_reject_joined (moments semantics a.state xs) (moments semantics b.state ys) a.errors b.errors c.errors d.rejected e.rejected);
      sized = both (IsSized (length semantics.processes)) xs ys d.sized e.sized;
      recorded = recorded_more semantics a.state b.state xs ys before middle after d.ran d.recorded e.recorded;
    }
