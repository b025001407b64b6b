use Rattle.std.proofs.Common.{sym, ap, ◌∙◌, Ok, Err, arith}
use Rattle.tap_base.specs.declared.token.Sign.TheVariants as sign
use Rattle.tap_lexer.specs.Lexeme.{lexeme, lexemes}
use Rattle.tap_lexer.specs.inner.Reading.{Free}
use Rattle.tap_expr.specs.Grammar.{expression}
use Rattle.tap_expr.specs.inner.ExprReading.{Stops}
use Rattle.tap_parser.specs.Statements.{AreStmts}
use Rattle.tap_parser.specs.Systems.{Sized}
use Rattle.tap_parser.specs.declared.kept.Kept.TheVariants.{Whole}
use Rattle.tap_parser.specs.inner.Forms.{StmtStops, BodyStops, BranchesStop}
use Rattle.tap_parser.proofs.TextParts.{Both, passed, valued, sound, joined, both_answers, both_stuck, shown_answers, after_answers, after_lacks, closed_answers, closed_lacks, closed_stuck}
use Rattle.tap_parser.proofs.TextBounds.{Number, followed, first_stuck}
use Rattle.tap_parser.proofs.TextBodies.{Steps, Bodies, step_starts, to_body, of_body, semicolon_stops, BranchSteps, BranchLists, branch_starts, to_branches, of_branches, box_stops, Branches, ToBody, arrow_follows, branch_answers, branch_value, fi_stops, od_stops}
use Rattle.tap_parser.proofs.TextLists.{leads_first, first_stuck as first_stuck_list, leads_more, leads_stuck, leads_last}
use Rattle.tap_parser.proofs.TextStatements.{Stmts, ToFi, ToOd, ToTimes, select_answers, loop_answers, loop_value, skip_answers, no_stmt, opens_none, opens_stmt, other_stmt}
use Rattle.tap_parser.proofs.stmts.+stmts.Goals as goal

pub read_selection-returns-in_err-behind : goal.read_selection-returns-in_err-behind
read_selection-returns-in_err-behind t c = let xs = lexemes c.args.source.now.text.now c.args.source.now.tokens.now in passed Stmts StmtStops xs c.args.at _ _ c.from_residual.ensures.1 (select_answers xs c.args.at (Err _) c.requires.shows (after_lacks sign.If ToFi Free xs c.args.at _ c.in_err-behind.ensures))

pub read_selection-returns-in_err-branches : goal.read_selection-returns-in_err-branches
read_selection-returns-in_err-branches t c = let xs = lexemes c.args.source.now.text.now c.args.source.now.tokens.now in passed Stmts StmtStops xs c.args.at _ _ c.from_residual-in_err-branches.ensures.1 (select_answers xs c.args.at (Err _) c.requires.shows (after_answers sign.If ToFi Free xs c.args.at c.in_ok-behind.behind (Err _) c.in_ok-behind.ensures (closed_stuck BranchLists BranchesStop sign.Fi fi_stops xs c.in_ok-behind.behind _ c.in_err-branches.ensures)))

pub read_selection-returns-in_err-next : goal.read_selection-returns-in_err-next
read_selection-returns-in_err-next t c = let xs = lexemes c.args.source.now.text.now c.args.source.now.tokens.now in passed Stmts StmtStops xs c.args.at _ _ c.from_residual-in_err-next.ensures.1 (select_answers xs c.args.at (Err _) c.requires.shows (after_answers sign.If ToFi Free xs c.args.at c.in_ok-behind.behind (Err _) c.in_ok-behind.ensures (closed_lacks BranchLists BranchesStop sign.Fi fi_stops xs c.in_ok-behind.behind c.in_ok-branches.branches _ c.in_ok-branches.ensures c.in_err-next.ensures)))

pub read_selection-returns : goal.read_selection-returns
read_selection-returns t c = let xs = lexemes c.args.source.now.text.now c.args.source.now.tokens.now in valued Stmts StmtStops xs c.args.at c.in_ok-next.next _ _ (c.selection.ensures) (select_answers xs c.args.at (Ok (record { value = c.in_ok-branches.branches.value; next = c.in_ok-next.next })) c.requires.shows (after_answers sign.If ToFi Free xs c.args.at c.in_ok-behind.behind (Ok (record { value = c.in_ok-branches.branches.value; next = c.in_ok-next.next })) c.in_ok-behind.ensures (closed_answers BranchLists BranchesStop sign.Fi fi_stops xs c.in_ok-behind.behind c.in_ok-next.next c.in_ok-branches.branches c.in_ok-branches.ensures c.in_ok-next.ensures)))

pub read_loop-returns-in_err-behind : goal.read_loop-returns-in_err-behind
read_loop-returns-in_err-behind t c = let xs = lexemes c.args.source.now.text.now c.args.source.now.tokens.now in passed Stmts StmtStops xs c.args.at _ _ c.from_residual.ensures.1 (loop_answers xs c.args.at (Err _) c.requires.shows (after_lacks sign.Do (Both Number ToTimes) Free xs c.args.at _ c.in_err-behind.ensures))

pub read_loop-returns-in_err-count : goal.read_loop-returns-in_err-count
read_loop-returns-in_err-count t c = let xs = lexemes c.args.source.now.text.now c.args.source.now.tokens.now in passed Stmts StmtStops xs c.args.at _ _ c.from_residual-in_err-count.ensures.1 (loop_answers xs c.args.at (Err _) c.requires.shows (after_answers sign.Do (Both Number ToTimes) Free xs c.args.at c.in_ok-behind.behind (Err _) c.in_ok-behind.ensures (first_stuck Number ToTimes Free xs c.in_ok-behind.behind _ c.in_err-count.ensures.told)))

pub read_loop-returns-in_err-behind-2 : goal.read_loop-returns-in_err-behind-2
read_loop-returns-in_err-behind-2 t c = let xs = lexemes c.args.source.now.text.now c.args.source.now.tokens.now in passed Stmts StmtStops xs c.args.at _ _ c.from_residual-in_err-behind-2.ensures.1 (loop_answers xs c.args.at (Err _) c.requires.shows (after_answers sign.Do (Both Number ToTimes) Free xs c.args.at c.in_ok-behind.behind (Err _) c.in_ok-behind.ensures (followed Number ToTimes Free xs c.in_ok-behind.behind (sound c.in_ok-count.count) (Err _) c.in_ok-count.ensures.told (after_lacks sign.Times ToOd Free xs c.in_ok-count.count.next _ c.in_err-behind-2.ensures))))

pub read_loop-returns-in_err-branches : goal.read_loop-returns-in_err-branches
read_loop-returns-in_err-branches t c = let xs = lexemes c.args.source.now.text.now c.args.source.now.tokens.now in passed Stmts StmtStops xs c.args.at _ _ c.from_residual-in_err-branches.ensures.1 (loop_answers xs c.args.at (Err _) c.requires.shows (after_answers sign.Do (Both Number ToTimes) Free xs c.args.at c.in_ok-behind.behind (Err _) c.in_ok-behind.ensures (followed Number ToTimes Free xs c.in_ok-behind.behind (sound c.in_ok-count.count) (Err _) c.in_ok-count.ensures.told (after_answers sign.Times ToOd Free xs c.in_ok-count.count.next c.in_ok-behind-2.behind (Err _) c.in_ok-behind-2.ensures (closed_stuck BranchLists BranchesStop sign.Od od_stops xs c.in_ok-behind-2.behind _ c.in_err-branches.ensures)))))

pub read_loop-returns-in_err-next : goal.read_loop-returns-in_err-next
read_loop-returns-in_err-next t c = let xs = lexemes c.args.source.now.text.now c.args.source.now.tokens.now in passed Stmts StmtStops xs c.args.at _ _ c.from_residual-in_err-next.ensures.1 (loop_answers xs c.args.at (Err _) c.requires.shows (after_answers sign.Do (Both Number ToTimes) Free xs c.args.at c.in_ok-behind.behind (Err _) c.in_ok-behind.ensures (followed Number ToTimes Free xs c.in_ok-behind.behind (sound c.in_ok-count.count) (Err _) c.in_ok-count.ensures.told (after_answers sign.Times ToOd Free xs c.in_ok-count.count.next c.in_ok-behind-2.behind (Err _) c.in_ok-behind-2.ensures (closed_lacks BranchLists BranchesStop sign.Od od_stops xs c.in_ok-behind-2.behind c.in_ok-branches.branches _ c.in_ok-branches.ensures c.in_err-next.ensures)))))

pub read_loop-returns : goal.read_loop-returns
read_loop-returns t c = let xs = lexemes c.args.source.now.text.now c.args.source.now.tokens.now in valued Stmts StmtStops xs c.args.at c.in_ok-next.next _ _ (c.repetition.ensures ∙ loop_value c.in_ok-count.count.value c.in_ok-branches.branches.value) (loop_answers xs c.args.at (joined (λ a b. (a, b)) (Whole c.in_ok-count.count.value) (Ok (record { value = c.in_ok-branches.branches.value; next = c.in_ok-next.next }))) c.requires.shows (after_answers sign.Do (Both Number ToTimes) Free xs c.args.at c.in_ok-behind.behind (joined (λ a b. (a, b)) (Whole c.in_ok-count.count.value) (Ok (record { value = c.in_ok-branches.branches.value; next = c.in_ok-next.next }))) c.in_ok-behind.ensures (followed Number ToTimes Free xs c.in_ok-behind.behind (sound c.in_ok-count.count) (Ok (record { value = c.in_ok-branches.branches.value; next = c.in_ok-next.next })) c.in_ok-count.ensures.told (after_answers sign.Times ToOd Free xs c.in_ok-count.count.next c.in_ok-behind-2.behind (Ok (record { value = c.in_ok-branches.branches.value; next = c.in_ok-next.next })) c.in_ok-behind-2.ensures (closed_answers BranchLists BranchesStop sign.Od od_stops xs c.in_ok-behind-2.behind c.in_ok-next.next c.in_ok-branches.branches c.in_ok-branches.ensures c.in_ok-next.ensures)))))

pub read_branch-returns-in_err-guard : goal.read_branch-returns-in_err-guard
read_branch-returns-in_err-guard t c = let xs = lexemes c.args.source.now.text.now c.args.source.now.tokens.now in passed Branches BodyStops xs c.args.at _ _ c.from_residual.ensures.1 (branch_answers xs c.args.at (Err _) (both_stuck Sized ToBody (Stops expression) BodyStops arrow_follows xs c.args.at _ c.in_err-guard.ensures))

pub read_branch-returns-in_err-behind : goal.read_branch-returns-in_err-behind
read_branch-returns-in_err-behind t c = let xs = lexemes c.args.source.now.text.now c.args.source.now.tokens.now in passed Branches BodyStops xs c.args.at _ _ c.from_residual-in_err-behind.ensures.1 (branch_answers xs c.args.at (Err _) (both_answers Sized ToBody (Stops expression) BodyStops arrow_follows xs c.args.at c.in_ok-guard.guard (Err _) c.in_ok-guard.ensures (after_lacks sign.Arrow (λ n. AreStmts (Sized n)) BodyStops xs c.in_ok-guard.guard.next _ c.in_err-behind.ensures)))

pub read_branch-returns-in_err-body : goal.read_branch-returns-in_err-body
read_branch-returns-in_err-body t c = let xs = lexemes c.args.source.now.text.now c.args.source.now.tokens.now in passed Branches BodyStops xs c.args.at _ _ c.from_residual-in_err-body.ensures.1 (branch_answers xs c.args.at (Err _) (both_answers Sized ToBody (Stops expression) BodyStops arrow_follows xs c.args.at c.in_ok-guard.guard (Err _) c.in_ok-guard.ensures (after_answers sign.Arrow (λ n. AreStmts (Sized n)) BodyStops xs c.in_ok-guard.guard.next c.in_ok-behind.behind (Err _) c.in_ok-behind.ensures c.in_err-body.ensures)))

pub read_branch-returns : goal.read_branch-returns
read_branch-returns t c = let xs = lexemes c.args.source.now.text.now c.args.source.now.tokens.now in valued Branches BodyStops xs c.args.at c.in_ok-body.body.next _ _ (c.branch-guard-2.ensures ∙ branch_value c.in_ok-guard.guard.value c.in_ok-body.body.value) (branch_answers xs c.args.at (joined (λ a b. (a, b)) c.in_ok-guard.guard.value (Ok c.in_ok-body.body)) (both_answers Sized ToBody (Stops expression) BodyStops arrow_follows xs c.args.at c.in_ok-guard.guard (Ok c.in_ok-body.body) c.in_ok-guard.ensures (after_answers sign.Arrow (λ n. AreStmts (Sized n)) BodyStops xs c.in_ok-guard.guard.next c.in_ok-behind.behind (Ok c.in_ok-body.body) c.in_ok-behind.ensures c.in_ok-body.ensures)))

pub read_stmts-returns-in_err-first : goal.read_stmts-returns-in_err-first
read_stmts-returns-in_err-first t c =
    let xs = lexemes c.args.source.now.text.now c.args.source.now.tokens.now in
    passed Bodies BodyStops xs c.args.at _ _ c.from_residual.ensures.1 (first_stuck_list Stmts Steps Bodies StmtStops sign.Semicolon semicolon_stops step_starts to_body of_body xs c.args.at _ c.in_err-first.ensures)

pub read_stmts-stmts-init : goal.read_stmts-stmts-init
read_stmts-stmts-init t c =
    let xs = lexemes c.args.source.now.text.now c.args.source.now.tokens.now in
    leads_first Stmts Steps Bodies StmtStops sign.Semicolon semicolon_stops step_starts to_body of_body xs c.args.at c.in_ok-first.first _ c.in_ok-value.ensures c.in_ok-first.ensures

pub read_stmts-returns-in_err-stmt : goal.read_stmts-returns-in_err-stmt
read_stmts-returns-in_err-stmt t c =
    let xs = lexemes c.args.source.now.text.now c.args.source.now.tokens.now in
    let x = c.shows.ensures.there c.stmts-test.true in
    passed Bodies BodyStops xs c.args.at _ _ c.from_residual-in_err-stmt.ensures.1 (leads_stuck Stmts Steps Bodies StmtStops sign.Semicolon semicolon_stops step_starts to_body of_body xs c.args.at c.stmts.next c.stmts.value _ c.stmts.invariant x (shown_answers sign.Semicolon Stmts StmtStops xs c.stmts.next (Err _) x c.in_err-stmt.ensures))

pub read_stmts-stmts-smaller : goal.read_stmts-stmts-smaller
read_stmts-stmts-smaller t c = let onward = c.in_ok-stmt.ensures.0 in let within = c.shows.ensures.within c.stmts-test.true in omega arith

pub read_stmts-stmts-preserved : goal.read_stmts-stmts-preserved
read_stmts-stmts-preserved t c =
    let xs = lexemes c.args.source.now.text.now c.args.source.now.tokens.now in
    let x = c.shows.ensures.there c.stmts-test.true in
    leads_more Stmts Steps Bodies StmtStops sign.Semicolon semicolon_stops step_starts to_body of_body xs c.args.at c.stmts.next c.stmts.value _ c.in_ok-stmt.stmt c.stmts.invariant x (shown_answers sign.Semicolon Stmts StmtStops xs c.stmts.next (Ok c.in_ok-stmt.stmt) x c.in_ok-stmt.ensures) c.in_ok-value-2.ensures

pub read_stmts-returns : goal.read_stmts-returns
read_stmts-returns t c =
    let xs = lexemes c.args.source.now.text.now c.args.source.now.tokens.now in
    leads_last Stmts Steps Bodies StmtStops sign.Semicolon semicolon_stops step_starts to_body of_body xs c.args.at c.stmts.next c.stmts.value c.stmts.invariant (c.shows.ensures.lacks c.stmts-test.false)

pub read_branches-returns-in_err-first : goal.read_branches-returns-in_err-first
read_branches-returns-in_err-first t c =
    let xs = lexemes c.args.source.now.text.now c.args.source.now.tokens.now in
    passed BranchLists BranchesStop xs c.args.at _ _ c.from_residual.ensures.1 (first_stuck_list Branches BranchSteps BranchLists BodyStops sign.Box box_stops branch_starts to_branches of_branches xs c.args.at _ c.in_err-first.ensures)

pub read_branches-branches-init : goal.read_branches-branches-init
read_branches-branches-init t c =
    let xs = lexemes c.args.source.now.text.now c.args.source.now.tokens.now in
    leads_first Branches BranchSteps BranchLists BodyStops sign.Box box_stops branch_starts to_branches of_branches xs c.args.at c.in_ok-first.first _ c.in_ok-value.ensures c.in_ok-first.ensures

pub read_branches-returns-in_err-branch : goal.read_branches-returns-in_err-branch
read_branches-returns-in_err-branch t c =
    let xs = lexemes c.args.source.now.text.now c.args.source.now.tokens.now in
    let x = c.shows.ensures.there c.branches-test.true in
    passed BranchLists BranchesStop xs c.args.at _ _ c.from_residual-in_err-branch.ensures.1 (leads_stuck Branches BranchSteps BranchLists BodyStops sign.Box box_stops branch_starts to_branches of_branches xs c.args.at c.branches.next c.branches.value _ c.branches.invariant x (shown_answers sign.Box Branches BodyStops xs c.branches.next (Err _) x c.in_err-branch.ensures))

pub read_branches-branches-smaller : goal.read_branches-branches-smaller
read_branches-branches-smaller t c = let onward = c.in_ok-branch.ensures.0 in let within = c.shows.ensures.within c.branches-test.true in omega arith

pub read_branches-branches-preserved : goal.read_branches-branches-preserved
read_branches-branches-preserved t c =
    let xs = lexemes c.args.source.now.text.now c.args.source.now.tokens.now in
    let x = c.shows.ensures.there c.branches-test.true in
    leads_more Branches BranchSteps BranchLists BodyStops sign.Box box_stops branch_starts to_branches of_branches xs c.args.at c.branches.next c.branches.value _ c.in_ok-branch.branch c.branches.invariant x (shown_answers sign.Box Branches BodyStops xs c.branches.next (Ok c.in_ok-branch.branch) x c.in_ok-branch.ensures) c.in_ok-value-2.ensures

pub read_branches-returns : goal.read_branches-returns
read_branches-returns t c =
    let xs = lexemes c.args.source.now.text.now c.args.source.now.tokens.now in
    leads_last Branches BranchSteps BranchLists BodyStops sign.Box box_stops branch_starts to_branches of_branches xs c.args.at c.branches.next c.branches.value c.branches.invariant (c.shows.ensures.lacks c.branches-test.false)

pub read_stmt-returns-in-Skip : goal.read_stmt-returns-in-Skip
read_stmt-returns-in-Skip t c =
    let xs = lexemes c.args.source.now.text.now c.args.source.now.tokens.now in
    skip_answers xs c.args.at (lexeme c.args.source.now.text.now c.in-Some.token) c.in-Some.ensures.seen (sym c.sign.ensures ∙ c.in-Skip.is)

pub read_stmt-returns-in_default : goal.read_stmt-returns-in_default
read_stmt-returns-in_default t c =
    let xs = lexemes c.args.source.now.text.now c.args.source.now.tokens.now in
    no_stmt xs c.args.at c.in_default.ensures.seen

pub read_stmt-sign-requires : goal.read_stmt-sign-requires
read_stmt-sign-requires t c = c.requires.texts c.args.at c.in-Some.token (sym c.in-Some.ensures.value)

pub read_stmt-returns-in_default-sign : goal.read_stmt-returns-in_default-sign
read_stmt-returns-in_default-sign t c =
    let xs = lexemes c.args.source.now.text.now c.args.source.now.tokens.now in
    other_stmt xs c.args.at (lexeme c.args.source.now.text.now c.in-Some.token) c.in-Some.ensures.seen (ap opens_stmt (sym c.sign.ensures) ∙ opens_none c.sign.result c.in_default-sign.not-Skip c.in_default-sign.not-Name c.in_default-sign.not-Choose c.in_default-sign.not-Send c.in_default-sign.not-Start c.in_default-sign.not-Stop c.in_default-sign.not-If c.in_default-sign.not-Do)
