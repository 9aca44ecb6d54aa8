use Rattle.std.proofs.Common.{rules, ◌≡◌, ◌+◌, ℕ, List, Result, Ok, Err, OnOk, length, ◌∙◌, ap, sym, arith}
use Rattle.vdisk.specs.declared.disk.Disk.{Ghosts}
use Rattle.table_records.specs.declared.records.FileRecord.{FileRecord}
use Rattle.volume_inside.specs.Inside.{Inside}
use Rattle.volume_inside.specs.Typed.{Typed}
use Rattle.volume_inside.specs.View.{cell}
use Rattle.volume_tables.specs.Reads.{ReadsOnly}
use Rattle.volume_tables.specs.declared.tables.Tables.{Tables}
use Rattle.volume_tables.specs.Tables.{tables_now, inside_now, disk_of}
use Rattle.volume_tables.proofs.Rereads.{reads_then, same_inside}
use Rattle.rw_filter.specs.Own.{is_own, HasOwn, KeepsOthers}
use Rattle.rw_filter.proofs.HoleCells.{first_loss, each_read}
use Rattle.rw_filter.proofs.reading.read_found.Goals as goal

pub returns-in_err-read_covered-clause-damaged : goal.returns-in_err-read_covered-clause-damaged
returns-in_err-read_covered-clause-damaged g c stored is q err =
    let t = c.args.tables.now in
    let refused : c.from_residual.result ≡ Err c.in_err-read_covered.field-0.0 = search rules in
    first_loss (tables_now t) (disk_of t).image c.args.file c.args.at (length c.args.out.now) c.args.found
    c.requires.there c.requires.within q
    (c.read_covered.ensures.damaged stored is q (c.in_err-read_covered.was ∙ sym refused ∙ err))

pub read_own-requires-clause-within : goal.read_own-requires-clause-within
read_own-requires-clause-within g c = omega (arith, c.requires.within, c.read_covered.auto.out)

then_ok : {A E : Type 0} {P Q R : Type 0} (r : Result A E) → OnOk r P → OnOk r Q → (P → Q → R) → OnOk r R
then_ok (Ok a) one two then = then one two
then_ok (Err e) one two then = tt

module _ {D : Type 0} {d : Ghosts D} (t u : Tables D d) (reads : ReadsOnly t u) (id at n m : ℕ) (file : FileRecord) (long : m ≡ n) where
  own_before : (out : List ℕ) → HasOwn (tables_now u) (inside_now u) id file at m out
      → HasOwn (tables_now t) (inside_now t) id file at n out
  own_before out own k low mine =
      ap (λ (i : Inside). cell i id file (at + k)) (sym (same_inside t u reads))
      ∙ own k (omega (arith, low, long)) (ap (λ (v : Typed). is_own v id (at + k)) reads.now ∙ mine)

  kept_before : (old new : List ℕ) → KeepsOthers (tables_now u) id at m old new → KeepsOthers (tables_now t) id at n old new
  kept_before old new kept k low other =
      kept k (omega (arith, low, long)) (ap (λ (v : Typed). is_own v id (at + k)) reads.now ∙ other)

pub returns-clause-cells : goal.returns-clause-cells
returns-clause-cells g c stored is =
    let t = c.args.tables.now in
    let u = c.read_covered.new.tables in
    let reads = c.read_covered.ensures.reads in
    let file = c.args.file in
    let found = c.args.found in
    let n = length c.args.out.now in
    let first = c.read_covered.new.out in
    let second = c.read_own.new.out in
    then_ok c.read_own.result (c.read_own.ensures.bytes stored (reads.leaves.tables stored is)) c.read_own.ensures.others
    (λ own kept. each_read (tables_now t) (disk_of t).image file c.args.at n found c.requires.there
    c.requires.within first second (c.in_ok-read_covered.ensures.bytes stored is)
    (own_before t u reads file c.args.at n (length first) found c.read_covered.auto.out second own)
    (kept_before t u reads file c.args.at n (length first) found c.read_covered.auto.out first second kept))

pub returns-clause-reads : goal.returns-clause-reads
returns-clause-reads g c =
    reads_then g.met.D.Disk.same_next c.args.tables.now c.read_covered.new.tables c.read_own.new.tables
    c.read_covered.ensures.reads c.read_own.ensures.reads
