-- A guard's instructions lead on from what fits to what fits.
use Rattle.std.proofs.Common.{◌≡◌, ◌+◌, ◌<◌, true, List, [], refl, ap, sym, subst, ◌∙◌, slice_get, Option, Some, arith}
use Rattle.std.proofs.lemmas.Bool.{and_parts}
use Rattle.tap_base.specs.Option.{◌>>=◌}
use Rattle.register_code.specs.declared.bad.Part.TheVariants as part
use Rattle.register_code.specs.declared.code.Code.{Code}
use Rattle.register_code.specs.declared.code.CodeAction.{CodeAction}
use Rattle.register_code.specs.declared.code.CodeKind.TheVariants as kind
use Rattle.register_code.specs.declared.instr.Instr.{Instr}
use Rattle.register_code.specs.declared.instr.Instr.TheVariants as instr
use Rattle.register_code.specs.Instructions.{Setting, does}
use Rattle.register_code.specs.Loops.{one_step}
use Rattle.register_code.specs.Naming.{may_guard, may_stand}
use Rattle.register_code.specs.Running.{Leads, after, step}
use Rattle.register_code.specs.Sites.{Site}
use Rattle.register_code.specs.Verified.{received_fields, site_of}
use Rattle.register_code.proofs.Kept.{are_whole}
use Rattle.sound_code.specs.Fitting.{ReceivedFit}
use Rattle.sound_code.specs.Promises.{GoesOn, setting_of}
use Rattle.sound_code.proofs.Ends.{stepped}
use Rattle.sound_code.proofs.Falls.{still_counts}
use Rattle.sound_code.proofs.Joined.{leads_on}
use Rattle.sound_code.proofs.Reached.{Sound, sound, steps_fit}
use Rattle.code_steps.specs.Holding.{Held, moment}
use Rattle.code_steps.specs.Moving.{CanMove, Moves, is_plain}
use Rattle.code_steps.specs.Guarding.{ComesTo, IsInGuard, StepsTo}
use Rattle.code_steps.proofs.Ready.{can_move}

plain_guard : (i : Instr) → may_guard i ≡ true → is_plain i ≡ true
plain_guard (instr.Choose r lo hi) e = cc
plain_guard (instr.Select r first count) e = cc
plain_guard (instr.Send message first count to) e = cc
plain_guard (instr.Start t a) e = cc
plain_guard (instr.Stop t) e = cc
plain_guard (instr.Const r imm) e = refl
plain_guard (instr.Copy r a) e = refl
plain_guard (instr.Add r a b) e = refl
plain_guard (instr.Sub r a b) e = refl
plain_guard (instr.Mul r a b) e = refl
plain_guard (instr.Div r a b) e = refl
plain_guard (instr.Mod r a b) e = refl
plain_guard (instr.Min r a b) e = refl
plain_guard (instr.Max r a b) e = refl
plain_guard (instr.Eq r a b) e = refl
plain_guard (instr.Ne r a b) e = refl
plain_guard (instr.Lt r a b) e = refl
plain_guard (instr.Le r a b) e = refl
plain_guard (instr.Load r base run index) e = refl
plain_guard (instr.Save base run index a) e = refl
plain_guard (instr.Part r field) e = refl
plain_guard (instr.Jump target) e = refl
plain_guard (instr.JumpNe a imm target) e = refl
plain_guard (instr.Repeat count last) e = refl
plain_guard (instr.Again first) e = refl

pub heard_nothing : (code : Code) (action : CodeAction) → action.kind ≡ kind.Local → ReceivedFit (received_fields code action) []
heard_nothing code action e = rw e tt

abbrev site_in : (instrs : List Instr) (h : Held) → IsInGuard instrs h → Site
site_in instrs h g = site_of g.code g.number g.process g.action part.Guard

whole_in : (instrs : List Instr) (h : Held) (g : IsInGuard instrs h) → Sound (site_in instrs h g) []
whole_in instrs h g = sound g.code g.number g.process g.action part.Guard [] g.verified (heard_nothing g.code g.action g.local)

at_site : (instrs : List Instr) (h : Held) (g : IsInGuard instrs h) (i : Instr) → slice_get instrs h.next ≡ Some i → slice_get g.action.guard h.next ≡ Some i
at_site instrs h g i is = subst (λ is_. slice_get is_ h.next ≡ Some i) g.instrs_are is

pub guard_can : (instrs : List Instr) (h : Held) (i : Instr) → IsInGuard instrs h → slice_get instrs h.next ≡ Some i → CanMove [] i h
guard_can instrs h i g is =
    let whole = whole_in instrs h g in
    let at = at_site instrs h g i is in
    can_move (site_in instrs h g) [] i h g.timers [] [] (are_whole (site_in instrs h g) whole.keeps) at (whole.keeps.each h.next i at) whole.cells whole.heard g.fits

pub guard_plain : (instrs : List Instr) (h : Held) (i : Instr) → IsInGuard instrs h → slice_get instrs h.next ≡ Some i → is_plain i ≡ true
guard_plain instrs h i g is =
    let whole = whole_in instrs h g in
    plain_guard i (and_parts _ (may_stand part.Guard i) (whole.keeps.each h.next i (at_site instrs h g i is)).names).1

-- what follows from a value that is there
given : {A B : Type 0} (o : Option A) (x : A) (f : A → Option B) (y : Option B) → o ≡ Some x → f x ≡ y → (o >>= f) ≡ y
given o x f y e g = rw e g

pub guard_steps : (instrs : List Instr) (before after : Held) (i : Instr) → slice_get instrs before.next ≡ Some i → Moves [] i before after → StepsTo instrs before after
guard_steps instrs before after i is moves = record {
  leads = λ e ts ss cs same none. given (slice_get e.instrs before.next) i (λ j. does e j (moment before ts ss cs)) (Some (moment after ts ss cs)) (ap (λ is_. slice_get is_ before.next) same ∙ is) ((moves e none).leads ts ss cs);
  registers_room = (moves (record { messages = []; received = []; instrs = instrs }) refl).registers_room;
  counters_room = (moves (record { messages = []; received = []; instrs = instrs }) refl).counters_room;
}

abbrev setting_in : (instrs : List Instr) (h : Held) → IsInGuard instrs h → Setting
setting_in instrs h g = setting_of g.code g.action part.Guard []

pub guard_fits : (instrs : List Instr) (before after : Held) → IsInGuard instrs before → StepsTo instrs before after → IsInGuard instrs after
guard_fits instrs before after g steps =
    let e = setting_in instrs before g in
    let went = steps.leads e g.timers [] [] (sym g.instrs_are) refl in
    let goes = (steps_fit g.code g.number g.process g.action part.Guard [] (moment before g.timers [] []) g.verified (heard_nothing g.code g.action g.local) g.fits).0 in
    record {
      code = g.code;
      number = g.number;
      process = g.process;
      action = g.action;
      verified = g.verified;
      local = g.local;
      instrs_are = g.instrs_are;
      timers = g.timers;
      fits = subst (GoesOn (site_in instrs before g) e (moment before g.timers [] [])) went goes;
    }

pub guard_falls : (instrs : List Instr) (before after : Held) → IsInGuard instrs before → StepsTo instrs before after → still_counts one_step instrs after.counters after.next < still_counts one_step instrs before.counters before.next
guard_falls instrs before after g steps =
    let e = setting_in instrs before g in
    let same = g.instrs_are in
    let went = steps.leads e g.timers [] [] (sym g.instrs_are) refl in
    let less = (stepped one_step e (are_whole (site_in instrs before g) (whole_in instrs before g).keeps) (moment before g.timers [] []) (moment after g.timers [] []) went).falls.less in
    subst (λ is_. still_counts one_step is_ after.counters after.next < still_counts one_step is_ before.counters before.next) (sym same) (omega (arith, less))

pub comes_nowhere : (instrs : List Instr) (h : Held) → ComesTo instrs h h
comes_nowhere instrs h = record { ran = 0; leads = λ e ts ss cs same none. refl; registers_room = refl; counters_room = refl }

pub comes_on : (instrs : List Instr) (first before after : Held) → ComesTo instrs first before → StepsTo instrs before after → ComesTo instrs first after
comes_on instrs first before now come steps = record {
  ran = come.ran + 1;
  leads = λ e ts ss cs same none.
      let went : Leads e (moment before ts ss cs) 1 (moment now ts ss cs) = given (step e (moment before ts ss cs)) (moment now ts ss cs) (after e 0) (Some (moment now ts ss cs)) (steps.leads e ts ss cs same none) refl in
      leads_on e come.ran 1 (moment first ts ss cs) (moment before ts ss cs) (moment now ts ss cs) (come.leads e ts ss cs same none) went;
  registers_room = steps.registers_room ∙ come.registers_room;
  counters_room = steps.counters_room ∙ come.counters_room;
}
