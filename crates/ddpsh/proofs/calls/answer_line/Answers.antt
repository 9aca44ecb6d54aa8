use Rattle.std.proofs.Common.{refl, Ok, true≢false}
use Rattle.std.proofs.lemmas.Bool.{false≢true}
use Rattle.cmdlet_line.specs.Lines.{Silent}
use Rattle.script_items.specs.Script.{Bare}
use Rattle.answer_text.specs.Answers.{Nothing}
use Rattle.ddpsh.proofs.CallLaws.{comes_none, plain_exit}
use Rattle.ddpsh.proofs.calls.answer_line.Goals as goal

pub fill-requires-clause-small : goal.fill-requires-clause-small
fill-requires-clause-small g c = (rw c.in-Fill.is at c.requires.fits).2

pub returns-in-Silent-clause-told : goal.returns-in-Silent-clause-told
returns-in-Silent-clause-told g c w kept =
    rw (c.in-Silent.is, c.uncalled.ensures) (comes_none (Bare Silent) c.args.volume.now (λ before. Nothing) c.silent.new.text.items (Ok c.silent.result) (λ s calls answer h. h) plain_exit refl c.silent.ensures)

pub returns-in-Create-clause-told : goal.returns-in-Create-clause-told
returns-in-Create-clause-told g c w kept = rw c.in-Create.is (c.create.ensures.told w kept)

pub returns-in-Write-clause-told : goal.returns-in-Write-clause-told
returns-in-Write-clause-told g c w kept = rw c.in-Write.is (c.write_line.ensures.told w kept)

pub returns-in-Read-clause-told : goal.returns-in-Read-clause-told
returns-in-Read-clause-told g c w kept = rw c.in-Read.is (c.read.ensures.told w kept)

pub returns-in-Flush-clause-told : goal.returns-in-Flush-clause-told
returns-in-Flush-clause-told g c w kept = rw c.in-Flush.is (c.flush.ensures.told w kept)

pub returns-in-Exit-clause-told : goal.returns-in-Exit-clause-told
returns-in-Exit-clause-told g c w kept = rw c.in-Exit.is (c.exit.ensures.told w kept)

pub returns-in-Fill-clause-told : goal.returns-in-Fill-clause-told
returns-in-Fill-clause-told g c w kept = rw c.in-Fill.is (c.fill.ensures.told w kept)

pub returns-in-Length-clause-told : goal.returns-in-Length-clause-told
returns-in-Length-clause-told g c w kept = rw c.in-Length.is (c.set_length.ensures.told w kept)

pub returns-in-Rename-clause-told : goal.returns-in-Rename-clause-told
returns-in-Rename-clause-told g c w kept = rw c.in-Rename.is (c.rename.ensures.told w kept)

pub returns-in-Delete-clause-told : goal.returns-in-Delete-clause-told
returns-in-Delete-clause-told g c w kept = rw c.in-Delete.is (c.delete.ensures.told w kept)

pub returns-in-Digest-clause-told : goal.returns-in-Digest-clause-told
returns-in-Digest-clause-told g c w kept = rw c.in-Digest.is (c.digest.ensures.told w kept)

pub returns-in-Stat-clause-told : goal.returns-in-Stat-clause-told
returns-in-Stat-clause-told g c w kept = rw c.in-Stat.is (c.stat.ensures.told)

pub returns-in-List-clause-told : goal.returns-in-List-clause-told
returns-in-List-clause-told g c w kept = rw c.in-List.is c.list.ensures.told

pub returns-in-Silent-clause-idle : goal.returns-in-Silent-clause-idle
returns-in-Silent-clause-idle g c none =
    rw (c.in-Silent.is, c.uncalled.ensures) (comes_none (Bare Silent) c.args.volume.now (λ before. Nothing) c.silent.new.text.items (Ok c.silent.result) (λ s calls answer h. h) plain_exit refl c.silent.ensures)

pub returns-in-Silent-clause-stays : goal.returns-in-Silent-clause-stays
returns-in-Silent-clause-stays g c never = c.requires.running

pub returns-in-Write-clause-idle : goal.returns-in-Write-clause-idle
returns-in-Write-clause-idle g c = rw c.in-Write.is c.write_line.ensures.idle

pub returns-in-Write-clause-stays : goal.returns-in-Write-clause-stays
returns-in-Write-clause-stays g c = rw c.in-Write.is c.write_line.ensures.stays

pub returns-in-Create-clause-idle : goal.returns-in-Create-clause-idle
returns-in-Create-clause-idle g c = rw c.in-Create.is (λ none. absurd (false≢true none))

pub returns-in-Create-clause-stays : goal.returns-in-Create-clause-stays
returns-in-Create-clause-stays g c = rw c.in-Create.is (λ never. absurd (true≢false never))

pub returns-in-Read-clause-idle : goal.returns-in-Read-clause-idle
returns-in-Read-clause-idle g c = rw c.in-Read.is (λ none. absurd (false≢true none))

pub returns-in-Read-clause-stays : goal.returns-in-Read-clause-stays
returns-in-Read-clause-stays g c never = c.read.ensures.runs

pub returns-in-Flush-clause-idle : goal.returns-in-Flush-clause-idle
returns-in-Flush-clause-idle g c = rw c.in-Flush.is (λ none. absurd (false≢true none))

pub returns-in-Flush-clause-stays : goal.returns-in-Flush-clause-stays
returns-in-Flush-clause-stays g c = rw c.in-Flush.is (λ never. absurd (true≢false never))

pub returns-in-Exit-clause-idle : goal.returns-in-Exit-clause-idle
returns-in-Exit-clause-idle g c = rw c.in-Exit.is (λ none. absurd (false≢true none))

pub returns-in-Exit-clause-stays : goal.returns-in-Exit-clause-stays
returns-in-Exit-clause-stays g c = rw c.in-Exit.is (λ never. absurd (true≢false never))

pub returns-in-Fill-clause-idle : goal.returns-in-Fill-clause-idle
returns-in-Fill-clause-idle g c = rw c.in-Fill.is (λ none. absurd (false≢true none))

pub returns-in-Fill-clause-stays : goal.returns-in-Fill-clause-stays
returns-in-Fill-clause-stays g c = rw c.in-Fill.is (λ never. absurd (true≢false never))

pub returns-in-Length-clause-idle : goal.returns-in-Length-clause-idle
returns-in-Length-clause-idle g c = rw c.in-Length.is (λ none. absurd (false≢true none))

pub returns-in-Length-clause-stays : goal.returns-in-Length-clause-stays
returns-in-Length-clause-stays g c = rw c.in-Length.is (λ never. absurd (true≢false never))

pub returns-in-Rename-clause-idle : goal.returns-in-Rename-clause-idle
returns-in-Rename-clause-idle g c = rw c.in-Rename.is (λ none. absurd (false≢true none))

pub returns-in-Rename-clause-stays : goal.returns-in-Rename-clause-stays
returns-in-Rename-clause-stays g c = rw c.in-Rename.is (λ never. absurd (true≢false never))

pub returns-in-Delete-clause-idle : goal.returns-in-Delete-clause-idle
returns-in-Delete-clause-idle g c = rw c.in-Delete.is (λ none. absurd (false≢true none))

pub returns-in-Delete-clause-stays : goal.returns-in-Delete-clause-stays
returns-in-Delete-clause-stays g c = rw c.in-Delete.is (λ never. absurd (true≢false never))

pub returns-in-Digest-clause-idle : goal.returns-in-Digest-clause-idle
returns-in-Digest-clause-idle g c = rw c.in-Digest.is (λ none. absurd (false≢true none))

pub returns-in-Digest-clause-stays : goal.returns-in-Digest-clause-stays
returns-in-Digest-clause-stays g c never = c.digest.ensures.runs

pub returns-in-Stat-clause-idle : goal.returns-in-Stat-clause-idle
returns-in-Stat-clause-idle g c = rw c.in-Stat.is (λ none. absurd (false≢true none))

pub returns-in-Stat-clause-stays : goal.returns-in-Stat-clause-stays
returns-in-Stat-clause-stays g c never = c.requires.running

pub returns-in-List-clause-idle : goal.returns-in-List-clause-idle
returns-in-List-clause-idle g c = rw c.in-List.is (λ none. absurd (false≢true none))

pub returns-in-List-clause-stays : goal.returns-in-List-clause-stays
returns-in-List-clause-stays g c never = c.requires.running
