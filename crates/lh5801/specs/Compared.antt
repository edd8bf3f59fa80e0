-- A comparison of a log with an analyser's list, as C gets it.
use Rattle.analyser.specs.declared.Comparison.{Comparison}
use Rattle.analyser.specs.Comparison.{number_of, place_of}
use Rattle.lh5801.specs.declared.Compared.{Compared}

abbrev pub compared_of : Comparison → Compared
compared_of c = record { place = place_of c; number = number_of c }
