use Rattle.system_core.proofs.root_writing.write_all.Given as goal

abbrev pub ghost-write_whole : goal.ghost-write_whole
ghost-write_whole g a = a.puts.now
