-- A piece of the chart as C sees it: a number and two counts, 0 where the piece is refused (document 02, Job 10).
use Rattle.hexfloat.specs.Answer.{Answer, gives, stops}
use Rattle.chart.specs.Piece.{Counts}
use Rattle.panel.specs.declared.value.Piece.{Piece}

abbrev pub piece_of : Answer Counts → Piece
piece_of (gives c) = record { number = 0; total = c.total; written = c.written }
piece_of (stops k) = record { number = k; total = 0; written = 0 }
