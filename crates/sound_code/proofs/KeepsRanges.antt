-- Bodies of verified code keep ranges, and what they send fits.
use Rattle.std.proofs.Common.{◌≡◌, ◌≤◌, ℕ, ℤ, true, List, [], ◌∷◌, ◌++◌, map, length, refl, ap, sym, subst, ◌∙◌, slice_get, Option, Some, None, arith}
use Rattle.std.specs.Option.{option_map}
use Rattle.std.proofs.lemmas.Bool.{leb-true}
use Rattle.std.proofs.lemmas.Option.{option_and_then_some, slice_get-map}
use Rattle.tap_base.specs.declared.wire.WireField.{WireField}
use Rattle.tap_base.specs.Interval.{from_to}
use Rattle.tap_base.specs.Ranges.{AreAllIn}
use Rattle.tap_base.proofs.OptionFacts.{mapped}
use Rattle.tap_exec.specs.Running.{Running}
use Rattle.byte_meaning.specs.Messages.{AreFields, AreReceived}
use Rattle.abstract_run.specs.Safe.{IsBeginning, IsFitRunning, KeepsRange}
use Rattle.tap_exec.specs.Semantics.{ActionSemantics, ProcessSemantics}
use Rattle.register_code.specs.declared.bad.Part.TheVariants as part
use Rattle.register_code.specs.declared.code.Code.{Code}
use Rattle.register_code.specs.declared.code.CodeAction.{CodeAction}
use Rattle.register_code.specs.declared.code.CodeInput.{CodeInput}
use Rattle.register_code.specs.declared.code.CodeKind.{CodeKind}
use Rattle.register_code.specs.declared.code.CodeKind.TheVariants as kind
use Rattle.register_code.specs.declared.code.CodeMessage.{CodeMessage}
use Rattle.register_code.specs.declared.code.CodeProcess.{CodeProcess}
use Rattle.register_code.specs.CodeSemantics.{code_action, code_guard, code_input, code_process, code_semantics}
use Rattle.register_code.specs.Fields.{code_message}
use Rattle.register_code.specs.Instructions.{Moment, Setting}
use Rattle.register_code.specs.Loops.{cost, one_send, sends}
use Rattle.register_code.specs.Registers.{input_ranges}
use Rattle.register_code.specs.Running.{EndsWithin, Leads, after as steps_on, code_run, is_ended, left_by, run}
use Rattle.register_code.specs.Sites.{Site}
use Rattle.register_code.specs.Verified.{received_fields, site_of}
use Rattle.register_code.proofs.Kept.{code_keeps}
use Rattle.sound_code.specs.Fitting.{FitsSite, ReceivedFit}
use Rattle.sound_code.specs.Promises.{IsPartOf, opening_of, setting_of}
use Rattle.sound_code.specs.Ranges.{CodeKeepsRanges}
use Rattle.sound_code.proofs.Ends.{at_most_total, parts_end, run_is}
use Rattle.sound_code.proofs.Framed.{Frames, framed, leads_frames}
use Rattle.sound_code.proofs.Reached.{Sound, left_fits, opening_fits, reached, sound}

-- ---- what a body begins with

inputs_are : (inputs : List CodeInput) → map (λ i. i.range) (map code_input inputs) ≡ map (λ (i : CodeInput). from_to i.lo i.hi) inputs
inputs_are [] = refl
inputs_are (i ∷ is) = ap (λ rs. from_to i.lo i.hi ∷ rs) (inputs_are is)

heard_fits : (code : Code) (process : CodeProcess) (action : CodeAction) (received : List ℤ) → AreReceived (map code_message code.messages) (code_guard code process action) received → ReceivedFit (received_fields code action) received
heard_fits code process action received h = by_kind action.kind refl where
  by_message : (o : Option CodeMessage) (fields : List WireField) → option_map code_message o ≡ Some fields → AreFields fields received → ReceivedFit (option_map (λ (d : CodeMessage). d.fields) o) received
  by_message None fields e fit = tt
  by_message (Some d) fields e fit = let same : fields ≡ code_message d = cc in subst (λ fs. AreFields fs received) same fit

  by_kind : (k : CodeKind) → action.kind ≡ k → ReceivedFit (received_fields code action) received
  by_kind kind.Local is = rw is tt
  by_kind kind.Timeout is = rw is tt
  by_kind kind.Receive is =
      let there = rw is at h in
      rw is (by_message (slice_get code.messages action.a) there.fields (sym (slice_get-map code_message code.messages action.a) ∙ there.declared) there.fitting)

-- ---- a body that comes to its end

module _ (code : Code) (p : ℕ) (process : CodeProcess) (action : CodeAction) (part_of : IsPartOf code p process action) (inputs received : List ℤ) (before after : Running)
    (heard : ReceivedFit (received_fields code action) received) (given : AreAllIn (input_ranges process) inputs) (fits : IsFitRunning (code_process code process) before) where
  abbrev e : Setting
  e = setting_of code action part.Body received

  abbrev s : Moment
  s = opening_of action part.Body inputs before

  -- the run that gave what is after
  record Came : Type 0 where
    end : Moment
    ran : ℕ
    leads : Leads e s ran end
    ended : is_ended e end ≡ true
    few : ran ≤ cost action.body
    left : left_by (length before.cells) end ≡ after

  came : option_map (λ (r : Running × ℕ). r.0) (code_run code.messages action inputs received before) ≡ Some after → Came
  came is =
      let found = mapped (λ (r : Running × ℕ). r.0) (code_run code.messages action inputs received before) after is in
      option_and_then_some _ (run e (cost action.body) s) found.0 found.1
      (λ ended there same. let has = subst (EndsWithin e (cost action.body) s) there (parts_end code p process action part.Body received inputs before part_of) in
      let pair : (left_by (length before.cells) ended.0, ended.1) ≡ found.0 = cc in
      record { end = ended.0; ran = ended.1; leads = has.leads; ended = has.ended; few = has.few; left = ap (λ (r : Running × ℕ). r.0) pair ∙ found.2 })

  abbrev site : Site
  site = site_of code p process action part.Body

  whole : Sound site received
  whole = sound code p process action part.Body received part_of heard

  begins : FitsSite site (opening_of action part.Body inputs (record before { sends = [] }))
  begins = opening_fits code p process action part.Body inputs (record before { sends = [] }) ((code_keeps code part_of.verified).actions p process part_of.there part_of.number action part_of.declared).temporaries given (record { running = record { cells = fits.cells; counted = fits.counted; timers = fits.timers }; sends = tt })

  keeps : (c : Came) → KeepsRange (code_semantics code) p (code_process code process) (code_action code process action) inputs received before after
  keeps c =
      let frames = leads_frames e c.ran s c.end c.leads in
      let alone = frames.same [] c.end.choices in
      let start : framed s [] (frames.taken ++ c.end.choices) ≡ framed s [] s.choices = ap (framed s []) (sym frames.front) in
      let runs : Leads e (framed s [] s.choices) c.ran (framed c.end frames.sent c.end.choices) = subst (λ m. Leads e m c.ran (framed c.end frames.sent c.end.choices)) start alone in
      let come = reached site received whole c.ran (framed s [] s.choices) (framed c.end frames.sent c.end.choices) begins runs in
      let leaves = left_fits code p process action part.Body (length before.cells) (framed c.end frames.sent c.end.choices) fits.cells.counted come.fits in
      let few = leb-true (sends action.body) 64 (((code_keeps code part_of.verified).actions p process part_of.there part_of.number action part_of.declared).part part.Body).few in
      let left = c.left in
      let fit : IsFitRunning (code_process code process) (left_by (length before.cells) c.end) = record { cells = leaves.running.cells; counted = leaves.running.counted; timers = leaves.running.timers } in
      record {
        leads = record {
          running = subst (IsFitRunning (code_process code process)) left fit;
          sends = frames.sent;
          sent = sym (ap (λ (r : Running). r.sends) left) ∙ frames.sends;
          few = omega (arith, come.sends, at_most_total one_send action.body s.counters, few);
          fitting = leaves.sends;
        };
        takes = record {
          taken = frames.taken;
          front = frames.front ∙ ap (λ (r : Running). frames.taken ++ r.choices) left;
          same = λ rest. again c frames rest;
        };
      } where
        again : (c : Came) (frames : Frames (steps_on e c.ran) s c.end) (rest : List ℤ)
            → option_map (λ (r : Running × ℕ). r.0) (code_run code.messages action inputs received (record before { choices = frames.taken ++ rest })) ≡ Some (record after { choices = rest })
        again c frames rest =
            let there = run_is e (cost action.body) c.ran (framed s s.sends (frames.taken ++ rest)) (framed c.end (s.sends ++ frames.sent) rest) (frames.same s.sends rest) c.ended c.few in
            let same : record (left_by (length before.cells) c.end) { sends = s.sends ++ frames.sent; choices = rest } ≡ record after { choices = rest } =
            ap (λ xs. record (left_by (length before.cells) c.end) { sends = xs; choices = rest }) (sym frames.sends) ∙ ap (λ (r : Running). record r { choices = rest }) c.left in
            rw there (ap (λ (r : Running). Some r) same)

pub code_keeps_ranges : CodeKeepsRanges
code_keeps_ranges code verified p a process action at_p at_a inputs received before after begins is =
    let found = mapped (code_process code) (slice_get code.processes p) process (sym (slice_get-map (code_process code) code.processes p) ∙ at_p) in
    let pr = found.0 in
    let at_pr : slice_get (map (code_action code pr) pr.actions) a ≡ Some action = subst (λ (q : ProcessSemantics). slice_get q.actions a ≡ Some action) (sym found.2) at_a in
    let act = mapped (code_action code pr) (slice_get pr.actions a) action (sym (slice_get-map (code_action code pr) pr.actions a) ∙ at_pr) in
    subst (λ (q : ProcessSemantics). KeepsRange (code_semantics code) p q action inputs received before after) found.2
    (subst (λ (b : ActionSemantics). KeepsRange (code_semantics code) p (code_process code pr) b inputs received before after) act.2
    (of_body pr act.0 found.1 act.1
    (subst (λ (b : ActionSemantics). IsBeginning (code_semantics code) (code_process code pr) b inputs received before) (sym act.2) (subst (λ (q : ProcessSemantics). IsBeginning (code_semantics code) q action inputs received before) (sym found.2) begins))
    (subst (λ (b : ActionSemantics). b.body inputs received before ≡ Some after) (sym act.2) is))) where
      of_body : (pr : CodeProcess) (act : CodeAction) → slice_get code.processes p ≡ Some pr → slice_get pr.actions a ≡ Some act → IsBeginning (code_semantics code) (code_process code pr) (code_action code pr act) inputs received before
          → (code_action code pr act).body inputs received before ≡ Some after → KeepsRange (code_semantics code) p (code_process code pr) (code_action code pr act) inputs received before after
      of_body pr act there declared start ends =
          let part_of : IsPartOf code p pr act = record { verified = verified; there = there; number = a; declared = declared } in
          let heard = heard_fits code pr act received start.heard in
          let given = subst (λ rs. AreAllIn rs inputs) (inputs_are pr.inputs) start.given in
          keeps code p pr act part_of inputs received before after heard given start.running (came code p pr act part_of inputs received before after heard given start.running ends)
