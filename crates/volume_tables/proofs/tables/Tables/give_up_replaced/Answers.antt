use Rattle.volume_tables.proofs.tables.Tables.give_up_replaced.Goals as goal

pub give_up_unless-requires : goal.give_up_unless-requires
give_up_unless-requires g c differ = c.requires c.in-Some.other c.in-Some.is differ
