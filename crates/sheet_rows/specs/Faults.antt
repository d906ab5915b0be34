-- The refusals of a row that are those of its shape, of its readings, or of the records of its table.
use Rattle.type_b.specs.declared.shape.ShapeFault.{ShapeFault}
use Rattle.type_b.specs.declared.shape.ShapeFault.TheVariants.{Negative as NegativeShape, ZeroK as ZeroFactor, Beta as OtherBeta, Level as OtherLevel}
use Rattle.type_a.specs.declared.readings.ReadingsFault.{ReadingsFault}
use Rattle.type_a.specs.declared.readings.ReadingsFault.TheVariants.{TooFew as FewReadings, TooMany as ManyReadings, Shape as OtherWidth, Wide as WideReading, OutOfMemory as ReadingsMemory}
use Rattle.table_records.specs.declared.fault.RecordsFault.{RecordsFault}
use Rattle.table_records.specs.declared.fault.RecordsFault.TheVariants.{TooFew as FewRecords, Shape as OtherFields, NotNumber as NoLiteral, NumberRange as NoBound, OutOfMemory as RecordsMemory}
use Rattle.sheet_rows.specs.declared.fault.RowFault.{RowFault}
use Rattle.sheet_rows.specs.declared.fault.RowFault.TheVariants.{NotNumber, NumberRange, Negative, ZeroK, Beta, Level, TooFew, TooMany, Shape, Wide, OutOfMemory}

abbrev pub shape_fault : ShapeFault → RowFault
shape_fault NegativeShape = Negative
shape_fault ZeroFactor = ZeroK
shape_fault OtherBeta = Beta
shape_fault OtherLevel = Level

abbrev pub readings_fault : ReadingsFault → RowFault
readings_fault FewReadings = TooFew
readings_fault ManyReadings = TooMany
readings_fault (OtherWidth k) = Shape k
readings_fault (WideReading k) = Wide k
readings_fault ReadingsMemory = OutOfMemory

abbrev pub records_fault : RecordsFault → RowFault
records_fault FewRecords = TooFew
records_fault (OtherFields k) = Shape k
records_fault (NoLiteral k) = NotNumber k
records_fault (NoBound k) = NumberRange k
records_fault RecordsMemory = OutOfMemory
