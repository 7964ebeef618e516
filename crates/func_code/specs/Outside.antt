-- Errors of `base64`.
use Rattle.std.specs.Prelude.{Option, Some, None}
use Rattle.base64.specs.declared.decode.DecodeError.{DecodeError}
use Rattle.base64.specs.declared.decode.DecodeAllocError.{DecodeAllocError}
use Rattle.base64.specs.declared.decode.DecodeAllocError.TheVariants.{DecodeError as Failed, OutOfMemory}

-- the error, where it isn't want of memory
abbrev pub decode_fault : DecodeAllocError → Option DecodeError
decode_fault (Failed error) = Some error
decode_fault OutOfMemory = None
