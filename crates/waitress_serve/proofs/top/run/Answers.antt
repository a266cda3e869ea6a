use Rattle.std.proofs.Common.{inl, inr, refl}
use Rattle.waitress_serve.specs.declared.conclusion.Conclusion.TheVariants as conclusion
use Rattle.waitress_serve.specs.Reports.{binding, lacking, memory, polling, silence, unbuilt, usage}
use Rattle.waitress_serve.proofs.Applications.{can_not}
use Rattle.waitress_serve.proofs.Completing.{can_is_serving, cannot_serve, completes_done}
use Rattle.waitress_serve.proofs.Completing.{completes_no_memory, memory_ends, served_is_built}
use Rattle.waitress_serve.proofs.Completing.{served_is_sound, unmade_ends, unraised}
use Rattle.waitress_serve.proofs.Concluded.{added_for, report_down}
use Rattle.waitress_serve.proofs.TextLemmas.{cuts_either, cuts_none, out_part, writes_either}
use Rattle.waitress_serve.proofs.TextLemmas.{writes_none, writes_some, writes_text}
use Rattle.waitress_serve.proofs.top.run.Goals as goal

pub returns-in-Done-clause-headline : goal.returns-in-Done-clause-headline
returns-in-Done-clause-headline g c = λ told.
    added_for _ _ _ (λ d. inl d) (λ b. b) _ _ _ _ _ (c.in-Done.ensures.headline told)

pub returns-in-PollFailed-clause-headline : goal.returns-in-PollFailed-clause-headline
returns-in-PollFailed-clause-headline g c = λ told.
    added_for _ _ _ (λ _. report_down 4 _ _ _ _ _ (inl refl) c.report-in-PollFailed.ensures.status)
    (λ b. b) _ _ _ _ _ (c.in-PollFailed.ensures.headline told)

pub returns-in-NoMemory-clause-headline : goal.returns-in-NoMemory-clause-headline
returns-in-NoMemory-clause-headline g c = λ told.
    added_for _ _ _ (λ _. report_down 5 _ _ _ _ _ (inr refl) c.report-in-NoMemory.ensures.status)
    (λ b. b) _ _ _ _ _ (c.in-NoMemory.ensures.headline told)

pub returns-in-Done-clause-complete : goal.returns-in-Done-clause-complete
returns-in-Done-clause-complete g c = λ told links bodies app can quiet brief bind poll spills tree
    out err.
    completes_done _ _ _ _ _ (c.in-Done.ensures.complete told links bodies app quiet spills tree
    brief)

pub returns-in-Usage-clause-complete : goal.returns-in-Usage-clause-complete
returns-in-Usage-clause-complete g c = λ told links bodies app can.
    absurd (served_is_sound _ _ c.in-Usage.ensures.why (can_is_serving _ _ _ can))

pub returns-in-NotBuilt-clause-complete : goal.returns-in-NotBuilt-clause-complete
returns-in-NotBuilt-clause-complete g c = λ told links bodies app can.
    absurd (served_is_built _ (can_is_serving _ _ _ can) c.in-NotBuilt.ensures.why.unbuilt)

pub returns-in-Unmade-clause-complete : goal.returns-in-Unmade-clause-complete
returns-in-Unmade-clause-complete g c = λ told links bodies app can quiet brief bind poll spills
    tree.
    absurd (cannot_serve _ g.T.Tree.tells _ _ _ _ _ _ app tree c.in-Unmade.ensures.why.cannot can)

pub returns-in-BindFailed-clause-complete : goal.returns-in-BindFailed-clause-complete
returns-in-BindFailed-clause-complete g c = λ told links bodies app can quiet brief bind.
    absurd (bind c.in-BindFailed.ensures.binds)

pub returns-in-Unprinted-clause-complete : goal.returns-in-Unprinted-clause-complete
returns-in-Unprinted-clause-complete g c = λ told links bodies app can quiet brief bind poll spills
    tree out. absurd (out c.in-Unprinted.ensures.outs)

pub returns-in-PollFailed-clause-complete : goal.returns-in-PollFailed-clause-complete
returns-in-PollFailed-clause-complete g c = λ told links bodies app can quiet brief bind poll.
    absurd (poll c.in-PollFailed.ensures.polls)

pub returns-in-NoMemory-clause-complete : goal.returns-in-NoMemory-clause-complete
returns-in-NoMemory-clause-complete g c = λ told links bodies app can quiet brief bind poll spills
    tree out err.
    completes_no_memory _ _ _ _ _ _ _ _ c.report-in-NoMemory.ensures.status err

pub returns-in-Done-clause-err_text : goal.returns-in-Done-clause-err_text
returns-in-Done-clause-err_text g c = λ told other. writes_none _ _ _ _ _ 0 _ _ silence refl

pub returns-in-Usage-clause-err_text : goal.returns-in-Usage-clause-err_text
returns-in-Usage-clause-err_text g c = λ told other. writes_either _ _ _ _ _ _ _ _ _ _ 1 5
    (usage c.in-Usage.fault c.in-Usage.ensures.why) memory (c.report_usage.ensures.text told) other

pub returns-in-NotBuilt-clause-err_text : goal.returns-in-NotBuilt-clause-err_text
returns-in-NotBuilt-clause-err_text g c = λ told other. writes_text _ _ _ _ _ _ _ _ _ 2
    (unbuilt c.in-NotBuilt.ensures.why.unbuilt) (c.report.ensures.text told) other

pub returns-in-Unmade-clause-err_text : goal.returns-in-Unmade-clause-err_text
returns-in-Unmade-clause-err_text g c = λ told other. writes_either _ _ _ _ _ _ _ _ _ _ 2 5
    (lacking c.in-Unmade.why c.in-Unmade.ensures.why.cannot) memory
    (c.report_unmade.ensures.text told) other

pub returns-in-BindFailed-clause-err_text : goal.returns-in-BindFailed-clause-err_text
returns-in-BindFailed-clause-err_text g c = λ told other.
    writes_text _ _ _ _ _ _ _ _ _ 3 (binding c.in-BindFailed.ensures.why.serves_is)
    (c.report-in-BindFailed.ensures.text told) other

pub returns-in-PollFailed-clause-err_text : goal.returns-in-PollFailed-clause-err_text
returns-in-PollFailed-clause-err_text g c = λ told other.
    writes_text _ _ _ _ _ _ _ _ _ 4 (polling c.in-PollFailed.ensures.why.serves_is)
    (c.report-in-PollFailed.ensures.text told) other

pub returns-in-NoMemory-clause-err_text : goal.returns-in-NoMemory-clause-err_text
returns-in-NoMemory-clause-err_text g c = λ told other. writes_text _ _ _ _ _ _ _ _ _ 5 memory
    (c.report-in-NoMemory.ensures.text told) other

pub returns-in-Usage-clause-err_cut : goal.returns-in-Usage-clause-err_cut
returns-in-Usage-clause-err_cut g c = λ told six. cuts_either _ _ _ _ _ _ _ _ _ _ 1 5
    (usage c.in-Usage.fault c.in-Usage.ensures.why) memory (c.report_usage.ensures.text told)

pub returns-in-NotBuilt-clause-err_cut : goal.returns-in-NotBuilt-clause-err_cut
returns-in-NotBuilt-clause-err_cut g c = λ told six. writes_some _ _ _ _ _ _ _ _ _ 2
    (unbuilt c.in-NotBuilt.ensures.why.unbuilt) (c.report.ensures.text told)

pub returns-in-Unmade-clause-err_cut : goal.returns-in-Unmade-clause-err_cut
returns-in-Unmade-clause-err_cut g c = λ told six. cuts_either _ _ _ _ _ _ _ _ _ _ 2 5
    (lacking c.in-Unmade.why c.in-Unmade.ensures.why.cannot) memory
    (c.report_unmade.ensures.text told)

pub returns-in-BindFailed-clause-err_cut : goal.returns-in-BindFailed-clause-err_cut
returns-in-BindFailed-clause-err_cut g c = λ told six. writes_some _ _ _ _ _ _ _ _ _ 3
    (binding c.in-BindFailed.ensures.why.serves_is) (c.report-in-BindFailed.ensures.text told)

pub returns-in-Unprinted-clause-err_cut : goal.returns-in-Unprinted-clause-err_cut
returns-in-Unprinted-clause-err_cut g c = λ told six. cuts_none _ _ _ _ _ 6 _ _ silence refl

pub returns-in-PollFailed-clause-err_cut : goal.returns-in-PollFailed-clause-err_cut
returns-in-PollFailed-clause-err_cut g c = λ told six. writes_some _ _ _ _ _ _ _ _ _ 4
    (polling c.in-PollFailed.ensures.why.serves_is) (c.report-in-PollFailed.ensures.text told)

pub returns-in-NoMemory-clause-err_cut : goal.returns-in-NoMemory-clause-err_cut
returns-in-NoMemory-clause-err_cut g c = λ told six. writes_some _ _ _ _ _ _ _ _ _ 5 memory
    (c.report-in-NoMemory.ensures.text told)

pub returns-in-NotBuilt-clause-two : goal.returns-in-NotBuilt-clause-two
returns-in-NotBuilt-clause-two g c = λ two. inl c.in-NotBuilt.ensures.why.unbuilt

pub returns-in-Unmade-clause-two : goal.returns-in-Unmade-clause-two
returns-in-Unmade-clause-two g c = λ two. inr (c.in-Unmade.why, c.in-Unmade.ensures.why.cannot)

pub returns-in-Done-clause-out_text : goal.returns-in-Done-clause-out_text
returns-in-Done-clause-out_text g c = λ told. out_part _ conclusion.Done _ _
    (c.in-Done.ensures.text told)

pub returns-in-PollFailed-clause-out_text : goal.returns-in-PollFailed-clause-out_text
returns-in-PollFailed-clause-out_text g c = λ told. out_part _ conclusion.PollFailed _ _
    (c.in-PollFailed.ensures.text told)

pub returns-in-NoMemory-clause-out_text : goal.returns-in-NoMemory-clause-out_text
returns-in-NoMemory-clause-out_text g c = λ told. out_part _ conclusion.NoMemory _ _
    (c.in-NoMemory.ensures.text told)

pub returns-in-BindFailed-clause-out_text : goal.returns-in-BindFailed-clause-out_text
returns-in-BindFailed-clause-out_text g c = λ told. out_part _ conclusion.BindFailed _ _
    (c.in-BindFailed.ensures.text told)

pub returns-in-Unmade-clause-out_text : goal.returns-in-Unmade-clause-out_text
returns-in-Unmade-clause-out_text g c = λ told.
    out_part _ (conclusion.Unmade c.in-Unmade.why) _ _ (c.in-Unmade.ensures.text told)

pub returns-in-Usage-clause-headline : goal.returns-in-Usage-clause-headline
returns-in-Usage-clause-headline g c = λ told.
    added_for _ _ _ (λ d. absurd d) (λ b. b) _ _ _ _ _ (c.in-Usage.ensures.headline told)

pub returns-in-NotBuilt-clause-headline : goal.returns-in-NotBuilt-clause-headline
returns-in-NotBuilt-clause-headline g c = λ told.
    added_for _ _ _ (λ d. absurd d) (λ b. b) _ _ _ _ _ (c.in-NotBuilt.ensures.headline told)

pub returns-in-Unmade-clause-headline : goal.returns-in-Unmade-clause-headline
returns-in-Unmade-clause-headline g c = λ told.
    added_for _ _ _ (λ d. absurd d) (λ b. b) _ _ _ _ _ (c.in-Unmade.ensures.headline told)

pub returns-in-BindFailed-clause-headline : goal.returns-in-BindFailed-clause-headline
returns-in-BindFailed-clause-headline g c = λ told.
    added_for _ _ _ (λ d. absurd d) (λ b. b) _ _ _ _ _ (c.in-BindFailed.ensures.headline told)

pub returns-in-Unprinted-clause-headline : goal.returns-in-Unprinted-clause-headline
returns-in-Unprinted-clause-headline g c = λ told.
    added_for _ _ _ (λ d. absurd d) (λ b. b) _ _ _ _ _ (c.in-Unprinted.ensures.headline told)

pub returns-in-Done-clause-tree_failed : goal.returns-in-Done-clause-tree_failed
returns-in-Done-clause-tree_failed g c = λ none rose.
    absurd (unraised _ _ (c.in-Done.ensures.tree_read none) rose)

pub returns-in-Usage-clause-tree_failed : goal.returns-in-Usage-clause-tree_failed
returns-in-Usage-clause-tree_failed g c = λ none rose.
    absurd (unraised _ _ (c.in-Usage.ensures.tree_read none) rose)

pub returns-in-NotBuilt-clause-tree_failed : goal.returns-in-NotBuilt-clause-tree_failed
returns-in-NotBuilt-clause-tree_failed g c = λ none rose.
    absurd (unraised _ _ (c.in-NotBuilt.ensures.tree_read none) rose)

pub returns-in-BindFailed-clause-tree_failed : goal.returns-in-BindFailed-clause-tree_failed
returns-in-BindFailed-clause-tree_failed g c = λ none rose.
    absurd (unraised _ _ (c.in-BindFailed.ensures.tree_read none) rose)

pub returns-in-Unprinted-clause-tree_failed : goal.returns-in-Unprinted-clause-tree_failed
returns-in-Unprinted-clause-tree_failed g c = λ none rose.
    absurd (unraised _ _ (c.in-Unprinted.ensures.tree_read none) rose)

pub returns-in-PollFailed-clause-tree_failed : goal.returns-in-PollFailed-clause-tree_failed
returns-in-PollFailed-clause-tree_failed g c = λ none rose.
    absurd (unraised _ _ (c.in-PollFailed.ensures.tree_read none) rose)

pub returns-in-NoMemory-clause-tree_failed : goal.returns-in-NoMemory-clause-tree_failed
returns-in-NoMemory-clause-tree_failed g c = λ none rose.
    absurd (unraised _ _ (c.in-NoMemory.ensures.tree_read none) rose)

pub returns-in-Unmade-clause-tree_failed : goal.returns-in-Unmade-clause-tree_failed
returns-in-Unmade-clause-tree_failed g c = λ none rose.
    unmade_ends _ _ _ c.report_unmade.ensures.status

pub returns-in-Done-clause-unmade : goal.returns-in-Done-clause-unmade
returns-in-Done-clause-unmade g c = λ some none.
    absurd (can_not _ (c.in-Done.ensures.why.can some) none)

pub returns-in-BindFailed-clause-unmade : goal.returns-in-BindFailed-clause-unmade
returns-in-BindFailed-clause-unmade g c = λ some none.
    absurd (can_not _ c.in-BindFailed.ensures.why.can none)

pub returns-in-Unprinted-clause-unmade : goal.returns-in-Unprinted-clause-unmade
returns-in-Unprinted-clause-unmade g c = λ some none.
    absurd (can_not _ (c.in-Unprinted.ensures.why.can some) none)

pub returns-in-PollFailed-clause-unmade : goal.returns-in-PollFailed-clause-unmade
returns-in-PollFailed-clause-unmade g c = λ some none.
    absurd (can_not _ c.in-PollFailed.ensures.why.can none)

pub returns-in-Usage-clause-unmade : goal.returns-in-Usage-clause-unmade
returns-in-Usage-clause-unmade g c = λ some none.
    absurd (served_is_sound _ _ c.in-Usage.ensures.why some)

pub returns-in-NotBuilt-clause-unmade : goal.returns-in-NotBuilt-clause-unmade
returns-in-NotBuilt-clause-unmade g c = λ some none.
    absurd (served_is_built _ some c.in-NotBuilt.ensures.why.unbuilt)

pub returns-in-Unmade-clause-unmade : goal.returns-in-Unmade-clause-unmade
returns-in-Unmade-clause-unmade g c = λ some none.
    unmade_ends _ _ _ c.report_unmade.ensures.status

pub returns-in-NoMemory-clause-unmade : goal.returns-in-NoMemory-clause-unmade
returns-in-NoMemory-clause-unmade g c = λ some none.
    memory_ends _ _ _ c.report-in-NoMemory.ensures.status
