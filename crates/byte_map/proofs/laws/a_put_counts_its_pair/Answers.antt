use Rattle.byte_map.specs.Laws.{length_put_new, length_put_present, bytes_in_put_new, bytes_in_put_present}
use Rattle.byte_map.proofs.laws.a_put_counts_its_pair.Goals as goal

pub returns-clause-new : goal.returns-clause-new
returns-clause-new c = λ k v m sorted is. (length_put_new k v m sorted is, bytes_in_put_new k v m is)

pub returns-clause-present : goal.returns-clause-present
returns-clause-present c = λ k v w m sorted is. (length_put_present k v w m sorted is, bytes_in_put_present k v w m sorted is)
