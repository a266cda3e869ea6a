-- The status codes of refusals (RFC 9110, section 15; RFC 6585, section 5), and what is said of
-- them.
use Rattle.std.specs.Prelude.{ℕ, List, ◌++◌, codes, decimal}
use Rattle.byte_tables.specs.declared.refusal.Refusal.{Refusal}
use Rattle.byte_tables.specs.declared.refusal.Refusal.TheVariants.{RequestLine, Method, Version}
use Rattle.byte_tables.specs.declared.refusal.Refusal.TheVariants.{Target, FieldLine, FieldValue}
use Rattle.byte_tables.specs.declared.refusal.Refusal.TheVariants.{CodingOnOld, CodingUnknown}
use Rattle.byte_tables.specs.declared.refusal.Refusal.TheVariants.{Length, BodyTooLarge}
use Rattle.byte_tables.specs.declared.refusal.Refusal.TheVariants.{HeadTooLarge, ChunkSize}
use Rattle.byte_tables.specs.declared.refusal.Refusal.TheVariants.{ChunkExtension, ChunkLineEnd}
use Rattle.byte_tables.specs.declared.refusal.Refusal.TheVariants.{ChunkLineLong, ChunkEnd}
use Rattle.byte_tables.specs.declared.refusal.Refusal.TheVariants.{TrailerTooLarge}

abbrev pub code_of : Refusal → ℕ
code_of RequestLine = 400
code_of Method = 400
code_of Version = 400
code_of Target = 400
code_of FieldLine = 400
code_of FieldValue = 400
code_of CodingOnOld = 400
code_of CodingUnknown = 501
code_of Length = 400
code_of (BodyTooLarge _) = 413
code_of (HeadTooLarge _) = 431
code_of ChunkSize = 400
code_of ChunkExtension = 400
code_of ChunkLineEnd = 400
code_of ChunkLineLong = 400
code_of ChunkEnd = 400
code_of (TrailerTooLarge _) = 431

-- what the body of an answer says of a refusal
unfoldable pub text_of : Refusal → List ℕ
text_of RequestLine = codes "Malformed request line"
text_of Method = codes "Malformed HTTP method"
text_of Version = codes "Malformed HTTP version"
text_of Target = codes "Bad URI"
text_of FieldLine = codes "Malformed header line"
text_of FieldValue = codes "Malformed header value"
text_of CodingOnOld = codes "Transfer-Encoding in an HTTP/1.0 request"
text_of CodingUnknown = codes "Transfer-Encoding requested is not supported."
text_of Length = codes "Content-Length is invalid"
text_of (BodyTooLarge n) = codes "exceeds max_body of " ++ decimal n
text_of (HeadTooLarge n) = codes "exceeds max_header of " ++ decimal n
text_of ChunkSize = codes "Invalid chunk size"
text_of ChunkExtension = codes "Invalid chunk extension"
text_of ChunkLineEnd = codes "Invalid chunk line end"
text_of ChunkLineLong = codes "Chunk line too long"
text_of ChunkEnd = codes "Chunk not properly terminated"
text_of (TrailerTooLarge n) = codes "exceeds max_header of " ++ decimal n
