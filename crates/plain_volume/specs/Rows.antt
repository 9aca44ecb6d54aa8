-- Runs of calls that were worked out by hand.
use Rattle.std.specs.Prelude.{ℕ, List, [], ◌∷◌, Some, None, codes}
use Rattle.plain_volume.specs.Step.{Legal}
use Rattle.plain_volume.specs.declared.call.Call.TheVariants.{Create, Write, SetLength, Rename, Delete, Read, Digest, Stat, Next}
use Rattle.plain_volume.specs.declared.call.Reply.TheVariants.{Done, Bytes, Length, Name, Refused}
use Rattle.plain_volume.specs.declared.call.Reply.TheVariants as reply
use Rattle.plain_volume.specs.declared.call.Fault.TheVariants.{Exists, NoFile, OutsideFile}

-- SHA-256 of `hello`, as other tools answer it
abbrev pub hello_digest : List ℕ
hello_digest =
    0x2c ∷ 0xf2 ∷ 0x4d ∷ 0xba ∷ 0x5f ∷ 0xb0 ∷ 0xa3 ∷ 0x0e
    ∷ 0x26 ∷ 0xe8 ∷ 0x3b ∷ 0x2a ∷ 0xc5 ∷ 0xb9 ∷ 0xe2 ∷ 0x9e
    ∷ 0x1b ∷ 0x16 ∷ 0x1e ∷ 0x5c ∷ 0x1f ∷ 0xa7 ∷ 0x42 ∷ 0x5e
    ∷ 0x73 ∷ 0x04 ∷ 0x33 ∷ 0x62 ∷ 0x93 ∷ 0x8b ∷ 0x98 ∷ 0x24 ∷ []

abbrev pub HelloIsReadBack : Type 0
HelloIsReadBack = Legal [] ((Create (codes "a"), Done) ∷ (Write (codes "a") 0 (codes "hello"), Done)
    ∷ (Read (codes "a") 0 5, Bytes (codes "hello"))
    ∷ (Digest (codes "a"), reply.Digest hello_digest) ∷ (Read (codes "a") 0 6, Refused (OutsideFile 5)) ∷ [])

abbrev pub AnEmptyFileReadsNothing : Type 0
AnEmptyFileReadsNothing = Legal [] ((Create (codes "a"), Done) ∷ (Read (codes "a") 0 0, Bytes [])
    ∷ (Read (codes "a") 1 0, Refused (OutsideFile 0)) ∷ [])

abbrev pub AGapReadsAsZeros : Type 0
AGapReadsAsZeros = Legal [] ((Create (codes "a"), Done) ∷ (Write (codes "a") 10000 (codes "x"), Done)
    ∷ (Stat (codes "a"), Length 10001) ∷ (Read (codes "a") 9998 3, Bytes (0 ∷ 0 ∷ 120 ∷ [])) ∷ [])

-- the names are listed by asking for the next one
abbrev pub RenamedAndGrown : Type 0
RenamedAndGrown = Legal [] ((Create (codes "b"), Done) ∷ (Create (codes "a"), Done)
    ∷ (Next None, Name (Some (codes "a"))) ∷ (Stat (codes "a"), Length 0)
    ∷ (Next (Some (codes "a")), Name (Some (codes "b"))) ∷ (Stat (codes "b"), Length 0)
    ∷ (Next (Some (codes "b")), Name None)
    ∷ (Rename (codes "a") (codes "b"), Refused Exists) ∷ (Rename (codes "a") (codes "c"), Done)
    ∷ (SetLength (codes "c") 3, Done) ∷ (Read (codes "c") 0 3, Bytes (0 ∷ 0 ∷ 0 ∷ []))
    ∷ (Create (codes "b"), Refused Exists) ∷ (Delete (codes "a"), Refused NoFile) ∷ [])
