-- What a source, a sink and a clock in memory hold, and which of their calls are to fail.
use Rattle.std.specs.Prelude.{ℕ, List, drop, replicate, Option, Some}
use Rattle.vdisk.specs.declared.memory_streams.MemorySource.{MemorySource}
use Rattle.vdisk.specs.declared.memory_streams.MemorySink.{MemorySink}
use Rattle.vdisk.specs.declared.memory_streams.MemoryClock.{MemoryClock}
use Rattle.vdisk.specs.declared.faults.FaultPlan.{FaultPlan}

abbrev pub rest_of : MemorySource → List ℕ
rest_of source = drop source.place source.bytes.items

abbrev pub left_of : MemorySource → Option (List ℕ)
left_of source = Some (rest_of source)

-- how many bytes it has given
abbrev pub given_by : MemorySource → ℕ
given_by source = source.place

-- the most bytes that it hands out at once
abbrev pub source_most : MemorySource → ℕ
source_most source = source.most

abbrev pub source_faults : MemorySource → ℕ
source_faults source = source.faults

abbrev pub source_plan : MemorySource → FaultPlan
source_plan source = source.plan

abbrev pub held_by : MemorySink → Option (List ℕ)
held_by sink = Some sink.bytes.items

-- the most bytes that it takes at once
abbrev pub sink_most : MemorySink → ℕ
sink_most sink = sink.most

abbrev pub sink_faults : MemorySink → ℕ
sink_faults sink = sink.faults

abbrev pub sink_plan : MemorySink → FaultPlan
sink_plan sink = sink.plan

abbrev pub answers_of : MemoryClock → Option (List ℕ)
answers_of clock = Some (replicate clock.given clock.second)

abbrev pub clock_faults : MemoryClock → ℕ
clock_faults clock = clock.faults

abbrev pub clock_plan : MemoryClock → FaultPlan
clock_plan clock = clock.plan

-- the second that it always answers
abbrev pub second_of : MemoryClock → ℕ
second_of clock = clock.second
