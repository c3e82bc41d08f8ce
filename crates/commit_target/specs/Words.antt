-- Names and numbers of two-phase commit: its points, labels, and failure codes.
use Rattle.std.specs.Prelude.{ℕ, ◌+◌, ◌==◌, if◌then◌else◌, List, [], ◌∷◌, ◌++◌, codes}
use Rattle.std.specs.Fmt.{decimal}
use Rattle.commit_target.specs.declared.records.Kind.{Kind}
use Rattle.commit_target.specs.declared.records.Kind.TheVariants.{Prepare, Commit, Abort, End}
use Rattle.commit_target.specs.declared.records.Party.{Party}
use Rattle.commit_target.specs.declared.records.Party.TheVariants.{Coordinator, Participant}
use Rattle.commit_target.specs.declared.variant.Variant.{Variant}
use Rattle.commit_target.specs.declared.variant.Variant.TheVariants.{Sound, LazyPrepare, EarlyEnd, TwoTries, EndFirst}

-- The points, in the order of their numbers.
abbrev pub point_names : List (List ℕ)
point_names =
    codes "commit::send_prepare" ∷ codes "commit::force_prepare" ∷ codes "commit::send_vote" ∷ codes "commit::force_commit"
    ∷ codes "commit::send_outcome" ∷ codes "commit::force_outcome" ∷ codes "commit::send_ack" ∷ []

abbrev pub send_prepare_point : ℕ
send_prepare_point = 0

abbrev pub force_prepare_point : ℕ
force_prepare_point = 1

abbrev pub send_vote_point : ℕ
send_vote_point = 2

abbrev pub force_commit_point : ℕ
force_commit_point = 3

abbrev pub send_outcome_point : ℕ
send_outcome_point = 4

abbrev pub force_outcome_point : ℕ
force_outcome_point = 5

abbrev pub send_ack_point : ℕ
send_ack_point = 6

abbrev pub label : Variant → List ℕ
label Sound = codes "commit sound"
label LazyPrepare = codes "commit lazy_prepare"
label EarlyEnd = codes "commit early_end"
label TwoTries = codes "commit two_tries"
label EndFirst = codes "commit end_first"

-- The failure codes. `split`: two participants ended differently. `lost`: the client was told of a commit, but nobody committed. `phantom`: all
-- committed, but the client wasn't told so.
abbrev pub split : ℕ
split = 0

abbrev pub lost : ℕ
lost = 1

abbrev pub phantom : ℕ
phantom = 2

abbrev pub code_text : ℕ → List ℕ
code_text code = if code == split then codes "split" else (if code == lost then codes "lost" else codes "phantom")

-- The texts of parties, in which participants are numbered from 1, and of kinds of records.
abbrev pub party_text : Party → List ℕ
party_text Coordinator = codes "coordinator"
party_text (Participant n) = codes "participant " ++ decimal (n + 1)

abbrev pub kind_text : Kind → List ℕ
kind_text Prepare = codes "prepare"
kind_text Commit = codes "commit"
kind_text Abort = codes "abort"
kind_text End = codes "end"
