use Rattle.std.proofs.Common.{refl, ◌++◌, arith}
use Rattle.byteorder.specs.Endian.{big_bytes}
use Rattle.volume_inside.proofs.rows.another_version_is_found.Goals as goal

pub returns-clause-seven : goal.returns-clause-seven
returns-clause-seven c = record {
  value = big_bytes 4 7 ++ big_bytes 8 1;
  there = refl;
  whole = refl;
  is = refl;
  unknown = λ same. omega (arith, same);
}
