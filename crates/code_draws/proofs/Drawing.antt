-- The options of a choice are what can be taken there, since verified code can come to its end from each of them.
use Rattle.std.proofs.Common.{◌≡◌, ◌+◌, ◌<◌, ℕ, zero, suc, ℤ, Bool, true, false, List, [], ◌∷◌, ◌++◌, ◌||◌, length, append-nil, refl, sym, subst, ◌∙◌, slice_set, Option, Some, None, arith}
use Rattle.std.specs.Prelude.{Contains}
use Rattle.std.specs.List.{list_any}
use Rattle.std.specs.Ordering.{int_eq}
use Rattle.std.proofs.lemmas.Bool.Decides.{Decides-int_eq}
use Rattle.std.proofs.lemmas.Map.Views.{Contains-from_any}
use Rattle.tap_base.specs.Option.{◌>>=◌}
use Rattle.tap_exec.specs.Running.{Running}
use Rattle.register_code.specs.declared.bad.Part.TheVariants as part
use Rattle.register_code.specs.declared.code.Code.{Code}
use Rattle.register_code.specs.declared.code.CodeAction.{CodeAction}
use Rattle.register_code.specs.declared.code.CodeProcess.{CodeProcess}
use Rattle.register_code.specs.Instructions.{Moment, Setting}
use Rattle.register_code.specs.Loops.{cost}
use Rattle.register_code.specs.Running.{Fails, Leads, after, is_ended, run, step}
use Rattle.register_code.specs.Sites.{Site}
use Rattle.register_code.specs.Verified.{site_of}
use Rattle.sound_code.specs.Fitting.{FitsSite}
use Rattle.sound_code.specs.Promises.{GoesOn, opening_of, setting_of}
use Rattle.sound_code.proofs.Joined.{leads_on, runs_are_steps}
use Rattle.sound_code.proofs.Reached.{steps_fit}
use Rattle.drawn_code.specs.Ending.{CanEnd}
use Rattle.drawn_code.proofs.Ending.{code_can_end}
use Rattle.drawn_choices.specs.Draws.{CanTake, IsDraw, Leading, option_drawn}
use Rattle.drawn_choices.proofs.MoreDrawn.{one_more_drawn}
use Rattle.code_draws.specs.Leading.{Chooses, ChoicesAreDraws, HasCome, leads_code}

-- what follows from a value that is there
given : {A B : Type 0} (o : Option A) (x : A) (f : A → Option B) (y : Option B) → o ≡ Some x → f x ≡ y → (o >>= f) ≡ y
given o x f y e g = rw e g

any_later : (b c : Bool) → c ≡ true → (b || c) ≡ true
any_later true c e = refl
any_later false c e = e

among_is : (x : ℤ) (xs : List ℤ) → Contains xs x → list_any (int_eq x) xs ≡ true
among_is x [] (k, l, f) = absurd (omega (arith, l))
among_is x (y ∷ ys) (zero, l, f) = let same : int_eq x y ≡ true = (Decides-int_eq x y).1 (sym f) in rw same refl
among_is x (y ∷ ys) (suc k, l, f) = any_later (int_eq x y) (list_any (int_eq x) ys) (among_is x ys (k, omega (arith, l), f))

module _ (code : Code) (p : ℕ) (process : CodeProcess) (action : CodeAction) (received inputs : List ℤ) (r : Running) (taken : List ℤ) (ran : ℕ) (m : Moment) (register : ℕ) (options : List ℤ)
    (h : HasCome code p process action received inputs r taken ran m) (c : Chooses code action received m register options) where
  abbrev e : Setting
  e = setting_of code action part.Body received

  abbrev site : Site
  site = site_of code p process action part.Body

  abbrev start : List ℤ → Moment
  start choices = opening_of action part.Body inputs (record r { choices = choices })

  abbrev leads : Leading
  leads = leads_code code.messages action inputs received r

  abbrev with_choices : List ℤ → Moment
  with_choices more = record m { choices = more }

  abbrev chosen : ℤ → List ℤ → Moment
  chosen x rest = record m { next = m.next + 1; registers = slice_set m.registers register x; choices = rest }

  -- choices that lead to the end, and are all taken
  leads_there : (choices : List ℤ) (n : ℕ) (t : Moment) → Leads e (start choices) n t → is_ended e t ≡ true → t.choices ≡ [] → leads choices ≡ true
  leads_there choices n t go ended all =
      let there : run e (cost action.body) (start choices) ≡ Some (t, n) = (runs_are_steps code p process action part.Body received inputs (record r { choices = choices }) h.verified).0 t n go ended in
      rw (there, all) refl

  -- choices that lead to a moment at which nothing can be done lead to no end
  leads_nowhere : (choices : List ℤ) (n : ℕ) (t : Moment) → Leads e (start choices) n t → t.next < length action.body → step e t ≡ None → leads choices ≡ false
  leads_nowhere choices n t go inside stuck =
      let fails : Fails e (start choices) = record { ran = n; at = t; leads = go; within = inside; refused = stuck } in
      let none : run e (cost action.body) (start choices) ≡ None = (runs_are_steps code p process action part.Body received inputs (record r { choices = choices }) h.verified).1 fails in
      rw none refl

  -- an option leads on
  steps_on : (x : ℤ) (rest : List ℤ) → list_any (int_eq x) options ≡ true → step e (with_choices (x ∷ rest)) ≡ Some (chosen x rest)
  steps_on x rest among = c.asks (x ∷ rest) ∙ rw among refl

  stops : (x : ℤ) (rest : List ℤ) → list_any (int_eq x) options ≡ false → step e (with_choices (x ∷ rest)) ≡ None
  stops x rest among = c.asks (x ∷ rest) ∙ rw among refl

  none_left : step e (with_choices []) ≡ None
  none_left = c.asks []

  chosen_fits : (x : ℤ) → list_any (int_eq x) options ≡ true → FitsSite site (chosen x [])
  chosen_fits x among =
      let at : FitsSite site (with_choices (x ∷ [])) = record { registers = h.fits.registers; counters = h.fits.counters; timers = h.fits.timers; delays = h.fits.delays; sends = h.fits.sends; inside = h.fits.inside } in
      let goes = (steps_fit code p process action part.Body received (with_choices (x ∷ [])) h.verified h.heard at).0 in
      subst (GoesOn site e (with_choices (x ∷ []))) (steps_on x [] among) goes

  can_take : (x : ℤ) → list_any (int_eq x) options ≡ true → CanTake leads taken x
  can_take x among = by_end (code_can_end code p process action part.Body received (chosen x []) h.verified h.heard (chosen_fits x among)) where
    by_end : CanEnd e (chosen x []) → CanTake leads taken x
    by_end end =
        let here : Leads e (start (taken ++ x ∷ end.choices)) ran (with_choices (x ∷ end.choices)) = h.leads (x ∷ end.choices) in
        let on : Leads e (with_choices (x ∷ end.choices)) (suc end.ran) end.end = given (step e (with_choices (x ∷ end.choices))) (chosen x end.choices) (after e end.ran) (Some end.end) (steps_on x end.choices among) end.leads in
        record { behind = end.choices; ends = leads_there (taken ++ x ∷ end.choices) (ran + suc end.ran) end.end (leads_on e ran (suc end.ran) (start (taken ++ x ∷ end.choices)) (with_choices (x ∷ end.choices)) end.end here on) end.ended end.taken }

  is_option : (x : ℤ) → (m.next < length action.body) → CanTake leads taken x → Contains options x
  is_option x within t = by_test (list_any (int_eq x) options) refl where
    by_test : (b : Bool) → list_any (int_eq x) options ≡ b → Contains options x
    by_test true f = Contains-from_any (λ y z g. (Decides-int_eq y z).0 g) x options f
    by_test false f = let none = leads_nowhere (taken ++ x ∷ t.behind) ran (with_choices (x ∷ t.behind)) (h.leads (x ∷ t.behind)) within (stops x t.behind f) in let ends = t.ends in absurd cc

  pub is_draw : (word : ℕ) (x : ℤ) → m.next < length action.body → option_drawn options word ≡ Some x → IsDraw leads word taken x
  is_draw word x within drawn = record {
    goes_on = subst (λ cs. leads cs ≡ false) (append_nothing taken) (leads_nowhere (taken ++ []) ran (with_choices []) (h.leads []) within none_left);
    options = options;
    are = record { rising = c.rising; all = λ y. ((λ i. can_take y (among_is y options i)), λ t. is_option y within t) };
    takes = drawn;
  } where
    append_nothing : (xs : List ℤ) → xs ++ [] ≡ xs
    append_nothing xs = append-nil xs

pub choices_are_draws : ChoicesAreDraws
choices_are_draws code p process action received inputs r taken ran m register options words x h c are drawn =
    one_more_drawn (leads_code code.messages action inputs received r) words 0 taken x are
    (subst (λ k. IsDraw (leads_code code.messages action inputs received r) (words k) taken x) (zero-add-sym (length taken)) (is_draw code p process action received inputs r taken ran m register options h c (words (length taken)) x within drawn)) where
      zero-add-sym : (n : ℕ) → n ≡ 0 + n
      zero-add-sym n = omega arith

      within : m.next < length action.body
      within = c.inside
