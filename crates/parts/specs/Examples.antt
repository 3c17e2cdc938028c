pub mod FrameAddresses  -- 01's ten worked addresses of the XC3S400
