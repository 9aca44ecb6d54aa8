-- The ends of the last jobs, as the tables now have them and as the journal's map has them.
use Rattle.std.specs.Prelude.{◌+◌, ◌&&◌, nat_eq, ℕ, Bool, true, false, List, [], ◌∷◌}
use Rattle.table_records.specs.declared.jobs.JobKind.{JobKind}
use Rattle.table_records.specs.declared.jobs.JobKind.TheVariants.{Optimization, GarbageCollection, Scrubbing, Unoptimization}
use Rattle.table_records.specs.declared.records.ResultRecord.{ResultRecord}
use Rattle.table_rules.specs.Found.{result_of, with_result_of}
use Rattle.table_rules.specs.declared.records.LastResults.{LastResults}
use Rattle.volume_tables.specs.declared.ends.JobEnds.{JobEnds}

-- a table of results: a record of each kind, in their order
abbrev pub four_results : (JobKind → ResultRecord) → List (JobKind × ResultRecord)
four_results of_kind =
    (Optimization, of_kind Optimization) ∷ (GarbageCollection, of_kind GarbageCollection)
    ∷ (Scrubbing, of_kind Scrubbing) ∷ (Unoptimization, of_kind Unoptimization) ∷ []

-- once the last job of a kind ended so
abbrev pub with_last : JobKind → ResultRecord → JobEnds → JobEnds
with_last kind r ends = record ends { last = with_result_of kind r ends.last }

-- once the end of a kind is staged, or those of all
abbrev pub with_staged : JobKind → JobEnds → JobEnds
with_staged kind ends = record ends { staged = with_result_of kind (result_of kind ends.last) ends.staged }

abbrev pub all_settled : LastResults → JobEnds
all_settled last = record { last = last; staged = last }

abbrev pub all_staged : JobEnds → JobEnds
all_staged ends = all_settled ends.last

-- the table of results now
abbrev pub results_now : JobEnds → List (JobKind × ResultRecord)
results_now ends = four_results (λ kind. result_of kind ends.last)

-- the table of results of the journal's map
abbrev pub staged_results : JobEnds → List (JobKind × ResultRecord)
staged_results ends = four_results (λ kind. result_of kind ends.staged)

abbrev pub same_result : ResultRecord → ResultRecord → Bool
same_result a b = nat_eq a.second b.second && nat_eq a.result b.result

abbrev pub one_unless : Bool → ℕ
one_unless true = 0
one_unless false = 1

-- 1 where the end of a kind is not staged yet
abbrev pub unstaged : JobKind → JobEnds → ℕ
unstaged kind ends = one_unless (same_result (result_of kind ends.last) (result_of kind ends.staged))

-- how many ends the next commit is to stage
abbrev pub unstaged_in : JobEnds → ℕ
unstaged_in ends =
    unstaged Optimization ends
    + (unstaged GarbageCollection ends + (unstaged Scrubbing ends + unstaged Unoptimization ends))
