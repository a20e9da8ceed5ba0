use Rattle.play.proofs.play.run_over.Given as goal

abbrev pub ghosts-run_reading : goal.ghosts-run_reading
ghosts-run_reading g a = record { readings = a.orders.now.readings.now }
