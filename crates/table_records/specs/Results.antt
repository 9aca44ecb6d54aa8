-- The numbers of results of jobs.
use Rattle.std.specs.Prelude.{ℕ, Option, Some, None, nat_eq, if◌then◌else◌}
use Rattle.table_records.specs.declared.jobs.JobResult.{JobResult}
use Rattle.table_records.specs.declared.jobs.JobResult.TheVariants.{Never, Completed, Cancelled, Full, TableFull, Worn, MapLost}

abbrev pub result_number : JobResult → ℕ
result_number Never = 0
result_number Completed = 1
result_number Cancelled = 2
result_number Full = 3
result_number TableFull = 4
result_number Worn = 5
result_number MapLost = 6

abbrev pub result_of : ℕ → Option JobResult
result_of n =
    if nat_eq n 0 then Some Never
    else if nat_eq n 1 then Some Completed
    else if nat_eq n 2 then Some Cancelled
    else if nat_eq n 3 then Some Full
    else if nat_eq n 4 then Some TableFull
    else if nat_eq n 5 then Some Worn
    else if nat_eq n 6 then Some MapLost
    else None
