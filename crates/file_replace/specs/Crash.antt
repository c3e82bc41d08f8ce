-- What a run leaves to the power cut at its end: how many writes are pending, what each of them did, and what the judgement is if the cut keeps some
-- of them. Also workloads and scenarios in which a flaw shows only if a pending write is kept.
use Rattle.std.specs.Prelude.{ℕ, suc, Bool, List, [], ◌∷◌, ◌++◌, map, length, Option, Some, None, codes}
use Rattle.std.specs.Fmt.{decimal}
use Rattle.scenario_values.specs.declared.term.Term.{Term}
use Rattle.scenario_values.specs.declared.term.Task.{Task}
use Rattle.scenario_values.specs.declared.term.Task.TheVariants as task
use Rattle.scenario_values.specs.Scenario.{Entries}
use Rattle.action_eval.specs.Answers.{Given, replies, start}
use Rattle.sim_device.specs.declared.pending.Call.{Call}
use Rattle.sim_device.specs.declared.pending.Call.TheVariants as call
use Rattle.sim_device.specs.FileEffects.{PowerCut, Live, held, pending}
use Rattle.sim_device.specs.Pending.{Pending}
use Rattle.target_trait.specs.declared.judgement.Judgement.{Judgement}
use Rattle.target_trait.specs.Machine.{after}
use Rattle.target_trait.specs.Outcomes.{play}
use Rattle.target_trait.specs.Failing.{fails_once}
use Rattle.target_trait.specs.Cuts.{Cut}
use Rattle.file_replace.specs.declared.variant.Variant.{Variant}
use Rattle.file_replace.specs.Words.{target, name_text}
use Rattle.file_replace.specs.Work.{Work}
use Rattle.file_replace.specs.Judgement.{judged_by}
use Rattle.file_replace.specs.Steps.{State, machine, asks_of}

-- The judgement of what `target` holds after a cut with these answers, which say what it keeps.
abbrev pub judged_keeping : State → List Bool → Judgement
judged_keeping s keep = judged_by s.tally.past (held (PowerCut keep ∷ s.effects) Live target)

-- The power cut of a replacement, as a function of the answers of its run.
abbrev pub cut_of : Variant → Work → Cut
cut_of v w = record {
  pending = λ own. length (pending (after (machine v w) own).effects);
  judge = λ own keep. judged_keeping (after (machine v w) own) keep;
}

-- ---- what is pending, in words

-- A call as a text, such as `append tmp 0`. Places and counts are in bytes, and the first byte's place is 0.
abbrev pub call_text : Call → List ℕ
call_text (call.Create m) = codes "create " ++ name_text m
call_text (call.Append m place) = codes "append " ++ name_text m ++ codes " " ++ decimal place
call_text (call.WriteAt m place) = codes "write " ++ name_text m ++ codes " " ++ decimal place
call_text (call.Truncate m count) = codes "truncate " ++ name_text m ++ codes " " ++ decimal count
call_text (call.Rename a b) = codes "rename " ++ name_text a ++ codes " " ++ name_text b
call_text (call.Link a b) = codes "link " ++ name_text a ++ codes " " ++ name_text b
call_text (call.Unlink m) = codes "unlink " ++ name_text m

abbrev pub call_texts : List Pending → List (List ℕ)
call_texts writes = map (λ p. call_text p.call) writes

-- The texts of the writes that are pending at the end of a run, in the order in which they were made.
abbrev pub calls_of : Variant → Work → Given → List (List ℕ)
calls_of v w g = call_texts (pending (after (machine v w) (replies (play (suc g.limit) (asks_of v w) (start g)))).effects)

-- ---- scenarios

abbrev pub full_term : Option ℕ → Task → Term
full_term count what = record { share = 1000000; count = count; task = what }

-- `NAME=1*panic`: the run panics at the first hit of the point.
abbrev pub panics_once : List ℕ → List ℕ × List Term
panics_once name = (name, full_term (Some 1) (task.Panic None) ∷ [])

-- `power::keep=N*off->COUNT*return`: the first N pending writes are lost, and the next COUNT
-- are kept. Without a count all after the first N are kept.
abbrev pub keeps_after : ℕ → Option ℕ → List ℕ × List Term
keeps_after lost count = (codes "power::keep", full_term (Some lost) task.Off ∷ full_term count (task.Return None) ∷ [])

-- The directory's sync fails. Pending are the new file's name, its two chunks and the rename, and the cut keeps only the rename.
abbrev pub renamed_alone : Entries
renamed_alone = fails_once (codes "replace::sync_dir") ∷ keeps_after 3 (Some 1) ∷ []

-- The run panics at the directory's sync, and the cut keeps the second chunk and the rename.
abbrev pub renamed_without_the_first_chunk : Entries
renamed_without_the_first_chunk = panics_once (codes "replace::sync_dir") ∷ keeps_after 2 None ∷ []

-- The file's sync fails. Pending are the new file's name, its two chunks and the rename, and the cut keeps only the rename.
abbrev pub renamed_unsynced : Entries
renamed_unsynced = fails_once (codes "replace::sync") ∷ keeps_after 3 (Some 1) ∷ []

-- The new file can't be created.
abbrev pub create_fails : Entries
create_fails = fails_once (codes "replace::create") ∷ []

-- The same, and the cut keeps the only pending write, which removes the old name.
abbrev pub unlinked_alone : Entries
unlinked_alone = fails_once (codes "replace::create") ∷ (codes "power::keep", full_term (Some 1) (task.Return None) ∷ []) ∷ []

-- The directory's sync fails, and the cut keeps the rename, but not the name that is renamed.
abbrev pub renamed_unnamed : Entries
renamed_unnamed = fails_once (codes "replace::sync_dir") ∷ keeps_after 1 None ∷ []
