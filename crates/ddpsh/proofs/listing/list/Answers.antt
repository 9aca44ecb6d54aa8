use Rattle.std.proofs.Common.{◌≡◌, ◌+◌, ◌*◌, ◌++◌, ◌∙◌, ℕ, List, Option, Some, None, sym, ap, subst, refl, arith, Ok}
use Rattle.plain_volume.specs.Step.{plain}
use Rattle.plain_volume.specs.Replies.{own_reply, IsOwnOrMemory}
use Rattle.plain_volume.specs.declared.call.Call.TheVariants as call
use Rattle.answer_text.specs.Answers.{file_line}
use Rattle.volume_core.specs.Replies.{length_reply, name_reply}
use Rattle.volume_core.specs.Volumes.{view_now}
use Rattle.ddpsh.proofs.ListLaws.{Listed, listed_start, listed_more, listed_few, name_of, name_fault, stat_given, comes_list, broken_line, broken_name}
use Rattle.ddpsh.proofs.listing.list.Goals as goal

pub loop-count-init : goal.loop-count-init
loop-count-init g c = listed_start (view_now c.args.volume.now) None c.clear.new.self.items refl c.clear.ensures.items

pub returns-in-Ok-None-clause-told : goal.returns-in-Ok-None-clause-told
returns-in-Ok-None-clause-told g c =
    let own = subst
    (λ (o : Option (List ℕ)).
    IsOwnOrMemory (view_now c.args.volume.now) (call.Next o) (name_reply c.next_name.result)
    (view_now c.args.volume.now))
    c.bytes_in.ensures c.next_name.ensures in
    comes_list c.args.volume.now c.loop-count.count c.loop-count.last c.loop-count.text.items c.loop-count.invariant
    (2 * c.loop-count.count + 1) c.accepted_lines.new.text.items c.accepted_lines.result refl
    (name_of (view_now c.args.volume.now) c.loop-count.last None c.next_name.result
    (c.in-Ok-None.is ∙ ap Ok c.in-Ok-None.field-0-is) own) c.accepted_lines.ensures.said

pub returns-in-Memory-clause-told : goal.returns-in-Memory-clause-told
returns-in-Memory-clause-told g c =
    rw c.cut_short.ensures
    (broken_name c.args.volume.now c.loop-count.count c.loop-count.last c.loop-count.text.items c.loop-count.invariant
    (2 * c.loop-count.count + 1) refl)

pub unreachable-requires : goal.unreachable-requires
unreachable-requires g c =
    let own = subst
    (λ (o : Option (List ℕ)).
    IsOwnOrMemory (view_now c.args.volume.now) (call.Next o) (name_reply c.next_name.result)
    (view_now c.args.volume.now))
    c.bytes_in.ensures c.next_name.ensures in
    let memory = name_fault (view_now c.args.volume.now) c.loop-count.last c.next_name.result c.in-Err.fault
    c.in-Err.is own in
    c.in_default.not-Memory memory

pub unreachable-requires-in_default-stat : goal.unreachable-requires-in_default-stat
unreachable-requires-in_default-stat g c =
    let own = subst
    (λ (o : Option (List ℕ)).
    IsOwnOrMemory (view_now c.args.volume.now) (call.Next o) (name_reply c.next_name.result)
    (view_now c.args.volume.now))
    c.bytes_in.ensures c.next_name.ensures in
    let given = subst
    (λ (n : List ℕ). length_reply c.stat.result ≡ own_reply (plain (view_now c.args.volume.now) (call.Stat n)))
    c.as_bytes.ensures c.stat.ensures in
    stat_given (view_now c.args.volume.now) c.volume_is_lawful.ensures c.loop-count.count c.loop-count.last
    c.loop-count.text.items c.loop-count.invariant c.in-Ok-Some.name c.stat.result c.in_default-stat.field-0
    (name_of (view_now c.args.volume.now) c.loop-count.last (Some c.in-Ok-Some.name) c.next_name.result
    (c.in-Ok-Some.is ∙ ap Ok c.in-Ok-Some.field-0-is) own) given c.in_default-stat.is

pub returns-in-Err-Memory-clause-told : goal.returns-in-Err-Memory-clause-told
returns-in-Err-Memory-clause-told g c =
    let own = subst
    (λ (o : Option (List ℕ)).
    IsOwnOrMemory (view_now c.args.volume.now) (call.Next o) (name_reply c.next_name.result)
    (view_now c.args.volume.now))
    c.bytes_in.ensures c.next_name.ensures in
    let given = subst
    (λ (n : List ℕ). length_reply c.stat.result ≡ own_reply (plain (view_now c.args.volume.now) (call.Stat n)))
    c.as_bytes.ensures c.stat.ensures in
    let more = listed_more (view_now c.args.volume.now) c.volume_is_lawful.ensures c.loop-count.count c.loop-count.last
    c.loop-count.text.items c.loop-count.invariant c.in-Ok-Some.name c.in-Ok.size c.stat.result
    (name_of (view_now c.args.volume.now) c.loop-count.last (Some c.in-Ok-Some.name) c.next_name.result
    (c.in-Ok-Some.is ∙ ap Ok c.in-Ok-Some.field-0-is) own) given c.in-Ok.is in
    rw c.cut_short-in-Err-Memory.ensures
    (broken_line c.args.volume.now (c.loop-count.count + 1) (Some c.in-Ok-Some.name)
    (c.loop-count.text.items ++ file_line c.in-Ok.size c.in-Ok-Some.name) more (2 * c.loop-count.count + 2)
    (omega arith))

pub loop-count-preserved : goal.loop-count-preserved
loop-count-preserved g c =
    let own = subst
    (λ (o : Option (List ℕ)).
    IsOwnOrMemory (view_now c.args.volume.now) (call.Next o) (name_reply c.next_name.result)
    (view_now c.args.volume.now))
    c.bytes_in.ensures c.next_name.ensures in
    let given = subst
    (λ (n : List ℕ). length_reply c.stat.result ≡ own_reply (plain (view_now c.args.volume.now) (call.Stat n)))
    c.as_bytes.ensures c.stat.ensures in
    let more = listed_more (view_now c.args.volume.now) c.volume_is_lawful.ensures c.loop-count.count c.loop-count.last
    c.loop-count.text.items c.loop-count.invariant c.in-Ok-Some.name c.in-Ok.size c.stat.result
    (name_of (view_now c.args.volume.now) c.loop-count.last (Some c.in-Ok-Some.name) c.next_name.result
    (c.in-Ok-Some.is ∙ ap Ok c.in-Ok-Some.field-0-is) own) given c.in-Ok.is in
    let text = c.in-Ok-add_line.ensures.text
    ∙ ap (λ (n : List ℕ). c.loop-count.text.items ++ file_line c.in-Ok.size n) c.as_bytes-in-loop-count.ensures in
    subst
    (λ (x : List ℕ). Listed (view_now c.args.volume.now) (c.loop-count.count + 1) (Some c.in-Ok-Some.name) x)
    (sym text) more

pub unreachable-requires-2 : goal.unreachable-requires-2
unreachable-requires-2 g c =
    let few = listed_few (view_now c.args.volume.now) c.volume_is_lawful.ensures c.loop-count.count c.loop-count.last
    c.loop-count.text.items c.loop-count.invariant in
    omega (arith, few, c.volume_is_lawful.ensures.few, c.loop-count-test.false)
